use Rattle.tsp_progress.proofs.agree.runs_agree_meanwhile.Goals as goal
use Rattle.tsp_progress.proofs.AgreesMeanwhileProof.{runs_agree_meanwhile}

pub returns : goal.returns
returns c = runs_agree_meanwhile
