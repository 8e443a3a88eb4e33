use Rattle.tsp_progress.proofs.laws.alone_stands.Goals as goal
use Rattle.tsp_progress.proofs.PaceProof.{alone_stands}

pub returns : goal.returns
returns c = alone_stands
