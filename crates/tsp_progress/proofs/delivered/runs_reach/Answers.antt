use Rattle.tsp_progress.proofs.delivered.runs_reach.Goals as goal
use Rattle.tsp_progress.proofs.ReachesProof.{runs_reach}

pub returns : goal.returns
returns c = runs_reach
