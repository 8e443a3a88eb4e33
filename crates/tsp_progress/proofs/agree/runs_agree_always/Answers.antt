use Rattle.tsp_progress.proofs.agree.runs_agree_always.Goals as goal
use Rattle.tsp_progress.proofs.AgreesAlwaysProof.{runs_agree_always}

pub returns : goal.returns
returns c = runs_agree_always
