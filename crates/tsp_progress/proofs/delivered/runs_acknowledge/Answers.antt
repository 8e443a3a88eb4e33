use Rattle.tsp_progress.proofs.delivered.runs_acknowledge.Goals as goal
use Rattle.tsp_progress.proofs.AckedProof.{runs_acknowledge}

pub returns : goal.returns
returns c = runs_acknowledge
