use Rattle.tsp_progress.proofs.laws.stands.Goals as goal
use Rattle.tsp_progress.proofs.StandsProof.{stands}

pub returns : goal.returns
returns c = stands
