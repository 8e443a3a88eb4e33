use Rattle.tsp_progress.proofs.agree.runs_agree_from.Goals as goal
use Rattle.tsp_progress.proofs.AgreesFromProof.{runs_agree_from}

pub returns : goal.returns
returns c = runs_agree_from
