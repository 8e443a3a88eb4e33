use Rattle.tsp_progress.proofs.delivered.clocked_runs_reach.Goals as goal
use Rattle.tsp_progress.proofs.ReachesProof.{clocked_runs_reach}

pub returns : goal.returns
returns c = clocked_runs_reach
