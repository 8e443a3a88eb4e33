use Rattle.tsp_progress.proofs.rivals.runs_leave_one.Goals as goal
use Rattle.tsp_progress.proofs.OneStopsProof.{runs_leave_one}

pub returns : goal.returns
returns c = runs_leave_one
