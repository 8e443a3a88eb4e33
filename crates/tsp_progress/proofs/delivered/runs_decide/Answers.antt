use Rattle.tsp_progress.proofs.delivered.runs_decide.Goals as goal
use Rattle.tsp_progress.proofs.DecidedProof.{runs_decide}

pub returns : goal.returns
returns c = runs_decide
