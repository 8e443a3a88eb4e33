use Rattle.tsp_progress.proofs.elections.runs_elect_one.Goals as goal
use Rattle.tsp_progress.proofs.ElectOneProof.{runs_elect_one}

pub returns : goal.returns
returns c = runs_elect_one
