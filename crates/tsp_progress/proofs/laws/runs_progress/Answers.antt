use Rattle.tsp_progress.proofs.laws.runs_progress.Goals as goal
use Rattle.tsp_progress.proofs.ProgressProof.{runs_progress}

pub returns : goal.returns
returns c = runs_progress
