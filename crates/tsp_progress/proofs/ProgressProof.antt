-- Runs that are looked at in time make progress.
use Rattle.std.proofs.Common.{◌≤◌, ℕ, List}
use Rattle.tsp_rules.specs.{Values.Port, Values.SLACK}
use Rattle.tsp_base.specs.Words.{Line, of, view}
use Rattle.tsp_promises.specs.{Fits.Fits, Setting.Setting}
use Rattle.tsp_promises.proofs.promised.OwnFitsProof.{own_fits}
use Rattle.tsp_run.proofs.RunFits.{clocked_runs_fit, possible_runs_fit_holds}
use Rattle.tsp_progress.specs.{AlarmsFit.Manner, Progress.ClockedRunsProgress, Progress.Progress, Progress.ProgressTo, Progress.RunsProgress}
use Rattle.tsp_progress.specs.{Stands.StandsOn, Wakes.AllWake, Wakes.Woken, Watched.Attended, Watched.Told}
use Rattle.tsp_progress.proofs.FreshProof.{fresh_leads, leads_first}
use Rattle.tsp_progress.proofs.RoundsProof.{round_begins, rounds_recur}
use Rattle.tsp_progress.proofs.{AloneLeadsProof.alone_leads, AloneLeadsProof.leads_soon, AloneProof.Paced, AloneProof.idle_waits, InTimeProof.attended_in_time}
use Rattle.tsp_progress.proofs.{InTimeProof.told_in_time, NeverLateProof.never_late, PaceProof.alone_stands, PaceProof.paced, RunWakes.clocked_runs_wake}
use Rattle.tsp_progress.proofs.{RunWakes.runs_wake, SendsEndProof.sends_end, SendsEndProof.sends_ended, StandsProof.rising, StandsProof.stands}
use Rattle.tsp_progress.proofs.{StandsProof.stands_on}

pub progress : (m : ℕ → Manner) (setting : Setting) (late : ℕ) (world : List Line) → Fits setting world → Woken m world → AllWake m world →
    Attended late world → late ≤ SLACK → Progress m late world
progress m setting late world f w all a slack = record {
  sends = sends_end setting late world f a;
  in_time = attended_in_time m late world w a;
  rounds = rounds_recur m setting late world f w a slack;
  never_late = never_late m setting late world f all a slack;
  stands = stands m setting world f all;
  alone_stands = alone_stands m setting late world f w a slack;
  alone_leads = alone_leads m setting late world f w a slack;
  fresh_leads = fresh_leads m setting late world f w a slack;
}

pub progress_to : (m : ℕ → Manner) (setting : Setting) (late t n : ℕ) (world : List Line) → Fits setting world → AllWake m world → Attended late world →
    late ≤ SLACK → Told late setting t n world → ProgressTo m late setting t n world
progress_to m setting late t n world f all a slack told = record {
  sends = sends_ended setting late t n world f told;
  in_time = told_in_time m late setting t n world all told;
  rounds = λ q. round_begins late slack (m n) (view q (of n world)) (setting.tick n t) (all n q) (pace q) (told q);
  alone_stands = λ may q idle. idle_waits late slack (m n) may (view q (of n world)) (setting.tick n t) (all n q) (stands_at q) (pace q) (told q) idle;
  alone_leads = λ may strict q start idle s other. leads_soon late slack (m n) may strict (view q (of n world)) (setting.tick n t) (all n q) (stands_at q)
      (pace q) (told q) start idle s other;
  fresh_leads = λ may strict q start idle s other free.
      leads_first late slack (m n) may strict (view q (of n world)) (setting.tick n t) (all n q) (stands_at q) (pace q) (told q) start idle s other free;
} where
  stands_at : (q : Port) → StandsOn (m n) (view q (of n world))
  stands_at q = stands_on (m n) (view q (of n world)) (all n q).acts (rising setting q (of n world) (own_fits setting n world f))

  pace : (q : Port) → Paced late (view q (of n world))
  pace q = paced setting late world f a (m n) n q (all n q).acts

pub runs_progress : RunsProgress
runs_progress header setting events late set possible a slack =
    let f = (possible_runs_fit_holds header setting events set possible).0 in
    let w = runs_wake header events in (
      progress _ setting late _ f w.0 w.1 a slack,
      λ t n told. progress_to _ setting late t n _ f w.1 a slack told,
    )

pub clocked_runs_progress : ClockedRunsProgress
clocked_runs_progress clocks header setting events late set possible a slack =
    let f = (clocked_runs_fit clocks header setting events set possible).0 in
    let w = clocked_runs_wake clocks header events in (
      progress _ setting late _ f w.0 w.1 a slack,
      λ t n told. progress_to _ setting late t n _ f w.1 a slack told,
    )
