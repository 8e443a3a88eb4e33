use Rattle.tsp_progress.proofs.follow.runs_follow_on.Goals as goal
use Rattle.tsp_progress.proofs.FollowProof.{runs_follow_on}

pub returns : goal.returns
returns c = runs_follow_on
