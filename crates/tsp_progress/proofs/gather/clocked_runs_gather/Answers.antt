use Rattle.tsp_progress.proofs.gather.clocked_runs_gather.Goals as goal
use Rattle.tsp_progress.proofs.GatherProof.{clocked_runs_gather}

pub returns : goal.returns
returns c = clocked_runs_gather
