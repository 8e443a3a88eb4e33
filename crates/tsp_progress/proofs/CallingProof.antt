-- Who says that it is master and who asks for votes, by whom a port comes to follow another, and what makes a follower wait anew.
use Rattle.std.proofs.Common.{subst}
use Rattle.tsp_run.specs.Clocked.{clocks_of}
use Rattle.tsp_run.proofs.{OwnClocks.possible_own, OwnClocks.runs_by_own_clocks, OwnClocks.set_own}
use Rattle.tsp_progress.specs.Calling.{CallsFit, ClockedRunsCall, RunsCall}
use Rattle.tsp_progress.proofs.{RootRun.runs_rooted}

pub clocked_runs_call : ClockedRunsCall
clocked_runs_call clocks header setting events set possible n q = (runs_rooted clocks header events n q).calls

pub runs_call : RunsCall
runs_call header setting events set possible = subst (λ h. CallsFit h) (runs_by_own_clocks header events)
    (clocked_runs_call (clocks_of header) header setting events (set_own header setting set) (possible_own header events possible))
