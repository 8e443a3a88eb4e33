-- A node that may not be master is humble in each step, on all its ports.
use Rattle.std.proofs.Common.{sym, ap, subst, true≢false, ◌∙◌, ◌≡◌, ℕ, ◌==◌, true, false, List, [], ◌∷◌, map, refl}
use Rattle.tsp_rules.specs.Values.{Boot, Took, Become, Abandon, Quiet, Message, Good, LoopKind, PeerId, Port, Role, Master, Starting, QUIET}
use Rattle.tsp_base.specs.Words.{Begins, MessageValue, Past, Row, Seen, Step, Leads, arms, first_port, grown, nothing, others, puts, role, line_of, seen_as}
use Rattle.tsp_base.specs.Words.{view, ◌followed_by◌}
use Rattle.tsp_base.proofs.LeadsLemmas.{Leads_then}
use Rattle.tsp_rules.specs.GateRows.{NodeGiven, all_ports, answers_all, boots_all, boots_on, loop_to, loosens_master, repost, reposts, sends_loops}
use Rattle.tsp_rules.specs.{CandidateRows.yields, Guards.is_master, Guards.is_master_at, NodeRows.NodePast, NodeRows.for_ports, NodeRows.in_node_step}
use Rattle.tsp_rules.specs.{NodeRows.on, NodeRows.reading_all}
use Rattle.std.proofs.lemmas.Bool.{or_right}
use Rattle.tsp_base.proofs.LeadsLemmas.{Leads_either, Leads_from, Leads_nothing}
use Rattle.tsp_promises.proofs.leads.GateSteps.{All_after, LeadsAll}
use Rattle.tsp_progress.specs.{AlarmsFit.Manner, Humble.Humble, Humble.Mild, Humble.is_humble, Humble.leads_in}
use Rattle.tsp_progress.proofs.HumbleLeads.{Meek, no_back, meek_keeps, meek_arms, meek_puts, meek_rings, meek_sends, meek_takes}
use Rattle.tsp_progress.proofs.NodeKeeps.{At, Each, Family, Keeps, OkGiven, answers_keep, list_each, node_manner, on_each}

-- a port of a node that may not be master is humble
abbrev pub humbly : ℕ → Manner → ℕ → List Seen → Type 0
humbly c m x seen = m.may ≡ false → Humble c seen

module _ (c : ℕ) where
  lifted : {row : Row} → Leads (Meek c) row (Meek c) → Leads (At (humbly c)) row (At (humbly c))
  lifted d = record { run = λ x past h may. (d.run x past (record { may = may; humble = h may })).humble }

  humble_family : Family (humbly c)
  humble_family = record {
    boots = λ m step x seen h may. let k = h may in record {
      role_is = refl;
      window = refl;
      probe = refl;
      close = refl;
      resolve = refl;
      round = refl;
      posts = (tt, k.posts);
      backs = λ b p e. no_back e;
    };
    aside = λ m d x seen h may. let k = h may in record {
      role_is = k.role_is;
      window = k.window;
      probe = k.probe;
      close = k.close;
      resolve = k.resolve;
      round = k.round;
      posts = k.posts;
      backs = k.backs;
    };
  }

  gives_up_holds : Leads (Meek c) loosens_master (Meek c)
  unfolding loosens_master
  gives_up_holds = Leads_either is_master_at yields nothing (record {
    run = λ x past h. absurd (true≢false (sym (leading (role past.seen) h.1) ∙ h.0.humble.role_is));
  }) (Leads_from (λ x past h. h.0) Leads_nothing) where
    leading : (r : Role) → is_master r ≡ true → leads_in r ≡ true
    leading Master e = refl
    leading _ e = absurd (true≢false (sym e))

  loops : (q : Port) → Leads (Meek c) (sends_loops q) (Meek c)
  unfolding sends_loops
  loops q = record { run = λ x past h. each x past (others past.own past.peers) past.name h } where
    each : (x : ℕ) (past : Past) (ps : List PeerId) (name : List ℕ) → Meek c x past → Meek c x (grown x past (map (loop_to q name) ps))
    each x past [] name h = h
    each x past (p ∷ ps) name h = each x (grown x past (loop_to q name p ∷ [])) ps name (record {
      may = h.may;
      humble = meek_keeps c (loop_to q name p) refl x past h.humble;
    })

  passes : (m : MessageValue) → m.kind ≡ LoopKind → Leads (Meek c) (reposts m) (Meek c)
  unfolding reposts
  passes m is = record { run = λ x past h. each x past (others past.own past.peers) h } where
    each : (x : ℕ) (past : Past) (ps : List PeerId) → Meek c x past → Meek c x (grown x past (map (repost m) ps))
    each x past [] h = h
    each x past (p ∷ ps) h = each x (grown x past (repost m p ∷ [])) ps (record {
      may = h.may;
      humble = meek_keeps c (repost m p) (ap is_humble is) x past h.humble;
    })

  humble_keeps : Keeps (humbly c) (humbly c) (Mild c)
  humble_keeps = record {
    family = humble_family;
    weaken = λ x past h. h;
    sends = lifted (meek_sends c);
    rings = λ own wait a. lifted (meek_rings c own wait a);
    takes = λ steer charge from t ok. lifted (meek_takes c steer charge from t ok);
    took = λ from m is ok. lifted (meek_puts c (Took from (Good (Message m))) refl);
    gives_up = lifted gives_up_holds;
    abandons = lifted (meek_puts c Abandon refl);
    loops = λ q. lifted (loops q);
    reposts = λ m is. lifted (passes m is);
  }

  pub answers_humble : (g : NodeGiven) → OkGiven (Mild c) g → LeadsAll (Each (humbly c)) (answers_all g) (Each (humbly c))
  answers_humble = answers_keep (humbly c) (humbly c) (Mild c) humble_keeps

  boots_on_holds : (q : Port) → LeadsAll (Each (humbly c)) (boots_on q) (Each (humbly c))
  unfolding boots_on
  boots_on_holds q = on_each (humbly c) humble_family q (puts (Become Starting) followed_by arms Quiet QUIET)
      (lifted (Leads_then {Q = Meek c} (puts (Become Starting)) (arms Quiet QUIET) (meek_puts c (Become Starting) refl) (meek_arms c Quiet QUIET (λ at. refl))))

  pub boots_humble : LeadsAll (Each (humbly c)) boots_all (Each (humbly c))
  unfolding boots_all reading_all
  boots_humble = All_after {P = Each (humbly c)} {Q = Each (humbly c)} {R = Each (humbly c)} (on first_port (puts Boot))
      (reading_all all_ports (for_ports boots_on))
      (on_each (humbly c) humble_family first_port (puts Boot) (lifted (meek_puts c Boot refl)))
      (record { run = λ x past all. (list_each (humbly c) humble_family boots_on (all_ports x past) boots_on_holds).run x past all })

  pub begins_humble : (step : Step) (x : ℕ) (past : NodePast) → Each (humbly c) x past → Each (humbly c) x (in_node_step step x past)
  begins_humble step x past all r = subst (λ b. humbly c (node_manner past) x (seen_as b (line_of step x first_port Begins).did ∷ view r past.lines))
      (sym (or_right (first_port.0 == r.0) true refl))
      (λ may. let k = all r may in record {
        role_is = k.role_is;
        window = k.window;
        probe = k.probe;
        close = k.close;
        resolve = k.resolve;
        round = k.round;
        posts = (tt, k.posts);
        backs = k.backs;
      })
