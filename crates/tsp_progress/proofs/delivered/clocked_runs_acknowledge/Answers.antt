use Rattle.tsp_progress.proofs.delivered.clocked_runs_acknowledge.Goals as goal
use Rattle.tsp_progress.proofs.AckedProof.{clocked_runs_acknowledge}

pub returns : goal.returns
returns c = clocked_runs_acknowledge
