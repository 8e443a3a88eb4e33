-- In runs the later one of two candidatures near each other loses.
use Rattle.std.proofs.Common.{subst}
use Rattle.tsp_run.specs.Clocked.{clocks_of, run_by}
use Rattle.tsp_run.proofs.{OwnClocks.possible_own, OwnClocks.runs_by_own_clocks, OwnClocks.set_own, RunFits.clocked_runs_fit}
use Rattle.tsp_promises.specs.Premises.{Honest, Life}
use Rattle.tsp_progress.specs.{AckedInTime.IsPrompt, Delivered.Delivered, OneAtATime.Unbooted, OneAtATime.ClockedRunsElectOne, OneAtATime.LaterLoses}
use Rattle.tsp_progress.specs.{OneAtATime.RunsElectOne, RunsWake.manner_of}
use Rattle.tsp_progress.proofs.{DecidedProof.clocked_runs_decide, GiveUpProof.clocked_runs_give_up, LaterProof.loses, RunWakes.clocked_runs_wake}
use Rattle.tsp_progress.proofs.{StandKeeps.runs_sound, TableProof.clocked_runs_by_table, WinsLateProof.clocked_runs_win_late}

pub clocked_runs_elect_one : ClockedRunsElectOne
clocked_runs_elect_one clocks header setting events long t stays s set possible delivered prompt calm honest life c older d newer two w before win =
    loses set (run_by clocks header events) (clocked_runs_by_table clocks header events) (clocked_runs_fit clocks header setting events set possible).0
    (λ n q. runs_sound clocks header events n q) (manner_of header) (clocked_runs_wake clocks header events).1 (clocked_runs_give_up clocks header events)
    (clocked_runs_decide clocks header events) (clocked_runs_win_late clocks header setting events set possible) long t stays s delivered prompt calm honest
    life c older d newer two w before win

pub runs_elect_one : RunsElectOne
runs_elect_one header setting events long t stays s set possible = subst (λ h. Delivered setting long t stays s h → IsPrompt setting long → Unbooted stays s h →
    Honest h → Life h → LaterLoses setting long t stays s h) (runs_by_own_clocks header events)
    (clocked_runs_elect_one (clocks_of header) header setting events long t stays s (set_own header setting set) (possible_own header events possible))
