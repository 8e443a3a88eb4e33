use Rattle.tsp_progress.proofs.delivered.runs_find_first.Goals as goal
use Rattle.tsp_progress.proofs.FirstSearchProof.{runs_find_first}

pub returns : goal.returns
returns c = runs_find_first
