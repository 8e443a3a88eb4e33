use Rattle.tsp_progress.proofs.laws.ends_in_time.Goals as goal
use Rattle.tsp_progress.proofs.InTimeProof.{told_in_time}

pub returns : goal.returns
returns c = told_in_time
