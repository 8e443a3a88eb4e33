use Rattle.tsp_progress.proofs.laws.sends_ended.Goals as goal
use Rattle.tsp_progress.proofs.SendsEndProof.{sends_ended}

pub returns : goal.returns
returns c = sends_ended
