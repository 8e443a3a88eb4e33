use Rattle.tsp_progress.proofs.laws.rounds_recur.Goals as goal
use Rattle.tsp_progress.proofs.RoundsProof.{rounds_recur}

pub returns : goal.returns
returns c = rounds_recur
