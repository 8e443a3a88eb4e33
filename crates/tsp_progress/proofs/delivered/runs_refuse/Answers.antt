use Rattle.tsp_progress.proofs.delivered.runs_refuse.Goals as goal
use Rattle.tsp_progress.proofs.RefusedProof.{runs_refuse}

pub returns : goal.returns
returns c = runs_refuse
