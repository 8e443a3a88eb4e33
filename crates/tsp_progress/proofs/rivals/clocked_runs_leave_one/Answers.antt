use Rattle.tsp_progress.proofs.rivals.clocked_runs_leave_one.Goals as goal
use Rattle.tsp_progress.proofs.OneStopsProof.{clocked_runs_leave_one}

pub returns : goal.returns
returns c = clocked_runs_leave_one
