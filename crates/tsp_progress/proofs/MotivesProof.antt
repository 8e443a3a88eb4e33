-- In every run each deed that elections rest on has its motive.
use Rattle.std.proofs.Common.{sym, subst, true≢false, ◌∙◌, ◌≡◌, ap, ◌+◌, true, is_some, refl}
use Rattle.tsp_rules.specs.Values.{Arm, Become, Good, Message, Quiet, Role, Starting, QUIET}
use Rattle.tsp_rules.specs.Guards.{is_starting_role}
use Rattle.tsp_base.specs.Words.{Leads, arms, puts, role, ◌followed_by◌}
use Rattle.tsp_base.proofs.LeadsLemmas.{Leads_puts, Leads_then}
use Rattle.tsp_run.specs.Clocked.{clocks_of}
use Rattle.tsp_run.proofs.OwnClocks.{runs_by_own_clocks}
use Rattle.tsp_progress.specs.Motives.{ClockedRunsHaveMotives, HaveMotives, RunsHaveMotives}
use Rattle.tsp_progress.proofs.InTimeProof.{none_is}
use Rattle.tsp_progress.proofs.{MotiveLeads.In, MotiveLeads.Moved, MotiveLeads.becomes, MotiveLeads.keep, MotiveRows.rings_moved}
use Rattle.tsp_progress.proofs.MotiveTakes.{abandons_moved, gives_up_moved, loops_moved, reposts_moved, sends_moved, takes_moved, took_moved}
use Rattle.tsp_progress.proofs.{NodeKeeps.At, NodeKeeps.Family, RunKeeps.Lasts, RunKeeps.of_port, RunKeeps.runs_last, RunKeeps.starting_port}

family : Family (of_port Moved)
family = record {
  boots = λ m step x seen h. record {
    owed = (tt, h.owed);
    alarms = λ a s. absurd (true≢false (sym s ∙ ap is_some (none_is a)));
    sends = λ p. refl;
  };
  aside = λ m d x seen h. record { owed = h.owed; alarms = h.alarms; sends = h.sends };
}

starts : Leads (At (starting_port Moved)) (puts (Become Starting) followed_by arms Quiet QUIET) (At (starting_port Moved))
unfolding arms
starts = Leads_then {Q = In is_starting_role} (puts (Become Starting)) (arms Quiet QUIET)
    (Leads_puts (Become Starting) (λ x past h. becomes is_starting_role Starting refl x past h.0 tt))
    (record {
      run = λ x past h. let k = keep is_starting_role (Arm Quiet (x + QUIET)) refl x past h tt h.1 in (k.0, starting_by (role past.seen) h.1);
    })
  where
    starting_by : (r : Role) → is_starting_role r ≡ true → r ≡ Starting
    starting_by Starting e = refl
    starting_by _ e = absurd (true≢false (sym e))

lasts : Lasts Moved
lasts = record {
  none = record { owed = tt; alarms = λ a s. absurd (true≢false (sym s ∙ ap is_some (none_is a))); sends = λ p. refl };
  mark = λ step x seen h. record { owed = (tt, h.owed); alarms = h.alarms; sends = h.sends };
  boot = λ step x seen h. record {
    owed = (tt, h.owed);
    alarms = λ a s. absurd (true≢false (sym s ∙ ap is_some (none_is a)));
    sends = λ p. refl;
  };
  starts = starts;
  keeps = record {
    family = family;
    weaken = λ x past h. h;
    sends = sends_moved;
    rings = rings_moved;
    takes = λ steer charge from t ok. takes_moved steer charge from t;
    took = λ from m is ok. took_moved from (Good (Message m));
    gives_up = gives_up_moved;
    abandons = abandons_moved;
    loops = loops_moved;
    reposts = reposts_moved;
  };
}

pub clocked_runs_have_motives : ClockedRunsHaveMotives
clocked_runs_have_motives clocks header events n q = (runs_last Moved lasts clocks header events n q).owed

pub runs_have_motives : RunsHaveMotives
runs_have_motives header events = subst (λ h. HaveMotives h) (runs_by_own_clocks header events)
    (clocked_runs_have_motives (clocks_of header) header events)
