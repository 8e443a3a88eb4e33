-- What a node does in a step over all its ports puts its acts in the order that they need.
use Rattle.std.proofs.Common.{sym, ap, subst, ◌≡◌, ℕ, ◌==◌, true, List, ◌∷◌, inr, refl}
use Rattle.std.proofs.lemmas.Bool.{or_right}
use Rattle.tsp_rules.specs.Values.{Boot, Good, Message, Become, Abandon, Quiet, Port, Starting, QUIET}
use Rattle.tsp_base.specs.Words.{Acts, Begins, Seen, Step, Leads, arms, first_port, held, line_of, puts, role, seen_as, view, ◌followed_by◌}
use Rattle.tsp_base.proofs.{LeadsLemmas.Leads_puts, LeadsLemmas.Leads_then}
use Rattle.tsp_rules.specs.GateRows.{NodeGiven, all_ports, answers_all, boots_all, boots_on, ports_from}
use Rattle.tsp_rules.specs.NodeRows.{NodePast, for_ports, in_node_step, on, reading_all}
use Rattle.tsp_promises.proofs.leads.GateSteps.{All_after, LeadsAll}
use Rattle.tsp_progress.specs.{AlarmsFit.Manner, CausesFit.CausesFit, CausesFit.Heard, CausesFit.newest_is, CausesFit.starts_by, CausesFit.stirs}
use Rattle.tsp_progress.proofs.CauseLeads.{free_puts, gives_up_cause, loops_cause, reposts_cause, rings_cause, sends_cause, takes_cause, took_leads}
use Rattle.tsp_progress.proofs.NodeWakes.{Anything, any_given}
use Rattle.tsp_progress.proofs.NodeKeeps.{Each, Family, Keeps, answers_keep, list_each, node_manner, on_each}

-- the acts of a port came in the order that they need
abbrev pub caused : Manner → ℕ → List Seen → Type 0
caused m x seen = CausesFit seen

abbrev hearing : Manner → ℕ → List Seen → Type 0
hearing m x seen = CausesFit seen × Heard seen

caused_family : Family caused
caused_family = record { boots = λ m step x seen c. (inr tt, c); aside = λ m d x seen c. c }

causes_keep : Keeps caused hearing Anything
causes_keep = record {
  family = caused_family;
  weaken = λ x past h. h.0;
  sends = sends_cause;
  rings = rings_cause;
  takes = λ steer charge from t ok. takes_cause steer charge from t;
  took = λ from m is ok. record { run = λ x past h. let k = (took_leads from (Good (Message m)) (ap stirs is)).run x past h in (k.causes, k.heard) };
  gives_up = record { run = λ x past h. gives_up_cause.run x past (record { causes = h.0; heard = h.1 }) };
  abandons = free_puts Abandon refl;
  loops = loops_cause;
  reposts = λ m is. reposts_cause m;
}

pub answers_caused : (g : NodeGiven) → LeadsAll (Each caused) (answers_all g) (Each caused)
answers_caused g = answers_keep caused hearing Anything causes_keep g (any_given g)

-- a boot, and its quiet time

abbrev booting : Manner → ℕ → List Seen → Type 0
booting m x seen = CausesFit seen × (((held seen).boot ≡ x) × (role seen ≡ Starting))

booting_family : Family booting
booting_family = record { boots = λ m step x seen w. ((inr tt, w.0), (refl, refl)); aside = λ m d x seen w. w }

starts_cause : Leads (λ x past. CausesFit past.seen × (((held past.seen).boot ≡ x) × (role past.seen ≡ Starting)))
    (puts (Become Starting) followed_by arms Quiet QUIET) (λ x past. CausesFit past.seen × (((held past.seen).boot ≡ x) × (role past.seen ≡ Starting)))
unfolding arms
starts_cause = Leads_then {Q = λ x past. CausesFit past.seen × (((held past.seen).boot ≡ x) ×
    ((role past.seen ≡ Starting) × (newest_is starts_by past.seen ≡ true)))}
    (puts (Become Starting)) (arms Quiet QUIET)
    (Leads_puts (Become Starting) (λ x past h. ((inr h.1.1, h.0), (h.1.0, (refl, refl)))))
    (record { run = λ x past h. ((inr (h.1.0, h.1.1.1), h.0), (h.1.0, h.1.1.0)) })

boots_on_cause : (q : Port) → LeadsAll (Each booting) (boots_on q) (Each booting)
unfolding boots_on
boots_on_cause q = on_each booting booting_family q (puts (Become Starting) followed_by arms Quiet QUIET) starts_cause

pub boots_caused : LeadsAll (Each caused) boots_all (Each caused)
unfolding boots_all on puts reading_all
boots_caused = record {
  run = λ x past all r.
      ((All_after {P = Each caused} {Q = Each booting} {R = Each booting} (on first_port (puts Boot)) (reading_all all_ports (for_ports boots_on))
      (record {
        run = λ x past all r. subst (λ b. booting (node_manner past) x (seen_as b (line_of past.step x first_port (Acts Boot)).did ∷ view r past.lines))
            (sym (or_right (first_port.0 == r.0) true refl)) ((inr tt, all r), (refl, refl));
      })
      (record { run = λ x past all. (list_each booting booting_family boots_on (ports_from 0 past.ports) boots_on_cause).run x past all })).run x past all r).0;
}

-- a step's beginning
pub begins_caused : (step : Step) (x : ℕ) (past : NodePast) → Each caused x past → Each caused x (in_node_step step x past)
begins_caused step x past all r = subst (λ b. CausesFit (seen_as b (line_of step x first_port Begins).did ∷ view r past.lines))
    (sym (or_right (first_port.0 == r.0) true refl)) (inr tt, all r)
