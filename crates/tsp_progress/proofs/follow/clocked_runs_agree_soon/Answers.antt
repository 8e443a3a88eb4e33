use Rattle.tsp_progress.proofs.follow.clocked_runs_agree_soon.Goals as goal
use Rattle.tsp_progress.proofs.AgreesSoonProof.{clocked_runs_agree_soon}

pub returns : goal.returns
returns c = clocked_runs_agree_soon
