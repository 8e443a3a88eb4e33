use Rattle.tsp_progress.proofs.follow.runs_err_soon.Goals as goal
use Rattle.tsp_progress.proofs.ErrSoonProof.{runs_err_soon}

pub returns : goal.returns
returns c = runs_err_soon
