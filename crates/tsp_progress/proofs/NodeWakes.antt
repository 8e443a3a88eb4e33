-- What a node does in a step over all its ports keeps armed what each port's role asks for.
use Rattle.std.proofs.Common.{sym, subst, ◌≡◌, ℕ, ◌==◌, true, List, [], ◌∷◌, map, refl}
use Rattle.std.proofs.lemmas.Bool.{or_right}
use Rattle.tsp_rules.specs.Values.{Boot, Took, Become, Abandon, Quiet, PeerId, Port, Starting, QUIET, Loose, Good, Message, Place, Taken}
use Rattle.tsp_base.specs.Words.{Acts, Did, Here, Elsewhere, Begins, MessageValue, Past, Seen, Step, Leads, arms, first_port, grown, held, line_of, nothing}
use Rattle.tsp_base.specs.Words.{others, puts, seen_as, view, ◌followed_by◌}
use Rattle.tsp_base.proofs.{LeadsLemmas.Leads_either, LeadsLemmas.Leads_from, LeadsLemmas.Leads_nothing, LeadsLemmas.Leads_puts, LeadsLemmas.Leads_then}
use Rattle.tsp_rules.specs.GateRows.{GotOn, NodeTurn, NodeGiven, all_ports, answers_all, boots_all, boots_on, loosens_master, ports_from, repost, reposts}
use Rattle.tsp_rules.specs.NodeRows.{NodePast, for_ports, on, reading_all, in_node_step}
use Rattle.tsp_rules.specs.{CandidateRows.yields, Guards.is_master_at}
use Rattle.tsp_rules.proofs.{BuiltGate.built_sends_loops, Emits.Posting}
use Rattle.tsp_promises.proofs.leads.GateSteps.{All_after, LeadsAll}
use Rattle.tsp_progress.proofs.{PortWakes.calm, PortWakes.rings_far, PortWakes.sends_far, PortWakes.takes_far, PortWakes.yields_far}
use Rattle.tsp_progress.specs.AlarmsFit.{Manner}
use Rattle.tsp_progress.proofs.NodeKeeps.{Each, Family, Keeps, answers_keep, list_each, node_manner, on_each, OkGiven}
use Rattle.tsp_progress.proofs.Waking.{Awake, Begun, Settled, becomes, far, free_to, keeps, manner, ready, starting_quiets}

-- a port has armed what its role asks for
abbrev pub awake : Manner → ℕ → List Seen → Type 0
awake m x seen = Settled m true true seen

after_boot : (m : Manner) (step : Step) (x : ℕ) (seen : List Seen) → Settled m true true seen →
    Settled m true true (Here (record { step = step; tick = x; deed = Acts Boot }) ∷ seen)
after_boot m step x seen s = record {
  waking = record {
    acts = (tt, (free_to m seen (Acts Boot) s.free, s.waking.acts));
    starting = λ r start before s. let bad : ⊥ = cc in absurd bad;
    candidate = λ r. let bad : ⊥ = cc in absurd bad;
    loose = λ i r. let bad : ⊥ = cc in absurd bad;
    follow = λ i p r. let bad : ⊥ = cc in absurd bad;
    master = λ l r. let bad : ⊥ = cc in absurd bad;
  };
  free = refl;
}

after_aside : (m : Manner) (d : Did) (seen : List Seen) → Settled m true true seen → Settled m true true (Elsewhere d ∷ seen)
after_aside m d seen s = let w = s.waking in record {
  waking = record {
    acts = (s.free, w.acts);
    starting = w.starting;
    candidate = λ r. let c = w.candidate r in record { start = c.start; idle = c.idle; stood_is = c.stood_is; window_is = c.window_is };
    loose = w.loose;
    follow = w.follow;
    master = w.master;
  };
  free = refl;
}

awake_family : Family awake
awake_family = record { boots = λ m step x seen w. after_boot m step x seen w; aside = λ m d x seen w. after_aside m d seen w }

gives_up_far : Leads Awake loosens_master Awake
unfolding loosens_master
gives_up_far = Leads_either is_master_at yields nothing (Leads_from (λ x past h. ready Loose x past h.0) yields_far)
    (Leads_from (λ x past h. h.0) Leads_nothing)

reposts_far : (m : MessageValue) → Leads Awake (reposts m) Awake
unfolding reposts
reposts_far m = record { run = λ x past h. each x past (others past.own past.peers) h } where
  each : (x : ℕ) (past : Past) (ps : List PeerId) → Awake x past → Awake x (grown x past (map (repost m) ps))
  each x past [] h = h
  each x past (p ∷ ps) h = each x (grown x past (repost m p ∷ [])) ps (keeps (repost m p) refl x past h)

-- of whatever is taken
abbrev pub Anything : Place → Taken → Type 0
Anything from t = Unit {0}

pub any_given : (g : NodeGiven) → OkGiven Anything g
any_given NodeTurn = tt
any_given (GotOn q from t) = tt

awake_keeps : Keeps awake awake Anything
awake_keeps = record {
  family = awake_family;
  weaken = λ x past h. h;
  sends = sends_far;
  rings = rings_far;
  takes = λ steer charge from t ok. takes_far steer charge from t;
  took = λ from m is ok. far (Took from (Good (Message m))) refl;
  gives_up = gives_up_far;
  abandons = far Abandon refl;
  loops = λ q. calm {sorts = Posting ∷ []} refl refl (built_sends_loops q tt);
  reposts = λ m is. reposts_far m;
}

-- what a node answers keeps each of its ports awake
pub answers_awake : (g : NodeGiven) → LeadsAll (Each awake) (answers_all g) (Each awake)
answers_awake g = answers_keep awake awake Anything awake_keeps g (any_given g)

-- a boot

-- and its node booted now
abbrev booting : Manner → ℕ → List Seen → Type 0
booting m x seen = Settled m true true seen × ((held seen).boot ≡ x)

booting_family : Family booting
booting_family = record { boots = λ m step x seen w. (after_boot m step x seen w.0, refl); aside = λ m d x seen w. (after_aside m d seen w.0, w.1) }

starts_far : Leads (λ x past. booting (manner past) x past.seen) (puts (Become Starting) followed_by arms Quiet QUIET)
    (λ x past. booting (manner past) x past.seen)
unfolding arms puts
starts_far = Leads_then {Q = Begun} (puts (Become Starting)) (arms Quiet QUIET)
    (Leads_puts (Become Starting) (λ x past h. record { became = (becomes Starting).run x past (ready Starting x past h.0); boot = h.1 }))
    (record { run = λ x past h. (starting_quiets.run x past h, h.boot) })

boots_on_awake : (q : Port) → LeadsAll (Each booting) (boots_on q) (Each booting)
unfolding boots_on
boots_on_awake q = on_each booting booting_family q (puts (Become Starting) followed_by arms Quiet QUIET) starts_far

-- so does a boot
pub boots_awake : LeadsAll (Each awake) boots_all (Each awake)
unfolding boots_all on puts reading_all
boots_awake = record {
  run = λ x past all r.
      ((All_after {P = Each awake} {Q = Each booting} {R = Each booting} (on first_port (puts Boot)) (reading_all all_ports (for_ports boots_on))
      (record {
        run = λ x past all r. subst (λ b. booting (node_manner past) x (seen_as b (line_of past.step x first_port (Acts Boot)).did ∷ view r past.lines))
            (sym (or_right (first_port.0 == r.0) true refl)) (after_boot (node_manner past) past.step x (view r past.lines) (all r), refl);
      })
      (record { run = λ x past all. (list_each booting booting_family boots_on (ports_from 0 past.ports) boots_on_awake).run x past all })).run x past all r).0;
}

-- and so does a step's beginning
pub begins_awake : (step : Step) (x : ℕ) (past : NodePast) → Each awake x past → Each awake x (in_node_step step x past)
begins_awake step x past all r = subst (λ b. awake (node_manner past) x (seen_as b (line_of step x first_port Begins).did ∷ view r past.lines))
    (sym (or_right (first_port.0 == r.0) true refl)) (marked (node_manner past) (view r past.lines) (all r)) where
      marked : (m : Manner) (seen : List Seen) → Settled m true true seen → Settled m true true (Here (line_of step x first_port Begins).did ∷ seen)
      marked m seen s = let w = s.waking in record {
        waking = record {
          acts = (tt, (free_to m seen Begins s.free, w.acts));
          starting = w.starting;
          candidate = λ r. let c = w.candidate r in record { start = c.start; idle = c.idle; stood_is = c.stood_is; window_is = c.window_is };
          loose = w.loose;
          follow = w.follow;
          master = w.master;
        };
        free = refl;
      }
