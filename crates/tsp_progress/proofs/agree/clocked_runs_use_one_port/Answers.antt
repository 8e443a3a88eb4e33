use Rattle.tsp_progress.proofs.agree.clocked_runs_use_one_port.Goals as goal
use Rattle.tsp_progress.proofs.OnePortProof.{clocked_runs_use_one_port}

pub returns : goal.returns
returns c = clocked_runs_use_one_port
