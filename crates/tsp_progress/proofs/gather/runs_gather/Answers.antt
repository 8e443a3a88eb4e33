use Rattle.tsp_progress.proofs.gather.runs_gather.Goals as goal
use Rattle.tsp_progress.proofs.GatherProof.{runs_gather}

pub returns : goal.returns
returns c = runs_gather
