use Rattle.tsp_progress.proofs.agree.runs_agree_until_next.Goals as goal
use Rattle.tsp_progress.proofs.AgreesOnProof.{runs_agree_until_next}

pub returns : goal.returns
returns c = runs_agree_until_next
