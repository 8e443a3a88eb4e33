use Rattle.tsp_progress.proofs.follow.runs_agree_soon.Goals as goal
use Rattle.tsp_progress.proofs.AgreesSoonProof.{runs_agree_soon}

pub returns : goal.returns
returns c = runs_agree_soon
