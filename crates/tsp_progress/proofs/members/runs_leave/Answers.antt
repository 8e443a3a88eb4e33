use Rattle.tsp_progress.proofs.members.runs_leave.Goals as goal
use Rattle.tsp_progress.proofs.LeaveProof.{runs_leave}

pub returns : goal.returns
returns c = runs_leave
