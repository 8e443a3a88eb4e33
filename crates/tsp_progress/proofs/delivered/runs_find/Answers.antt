use Rattle.tsp_progress.proofs.delivered.runs_find.Goals as goal
use Rattle.tsp_progress.proofs.FoundProof.{runs_find}

pub returns : goal.returns
returns c = runs_find
