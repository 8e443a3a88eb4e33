use Rattle.tsp_progress.proofs.follow.clocked_runs_follow_on.Goals as goal
use Rattle.tsp_progress.proofs.FollowProof.{clocked_runs_follow_on}

pub returns : goal.returns
returns c = clocked_runs_follow_on
