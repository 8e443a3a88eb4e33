use Rattle.tsp_progress.proofs.follow.clocked_runs_err_soon.Goals as goal
use Rattle.tsp_progress.proofs.ErrSoonProof.{clocked_runs_err_soon}

pub returns : goal.returns
returns c = clocked_runs_err_soon
