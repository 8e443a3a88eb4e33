use Rattle.tsp_progress.proofs.laws.all_in_time.Goals as goal
use Rattle.tsp_progress.proofs.InTimeProof.{attended_in_time}

pub returns : goal.returns
returns c = attended_in_time
