use Rattle.tsp_progress.proofs.members.clocked_runs_leave.Goals as goal
use Rattle.tsp_progress.proofs.LeaveProof.{clocked_runs_leave}

pub returns : goal.returns
returns c = clocked_runs_leave
