use Rattle.tsp_progress.proofs.agree.runs_use_one_port.Goals as goal
use Rattle.tsp_progress.proofs.OnePortProof.{runs_use_one_port}

pub returns : goal.returns
returns c = runs_use_one_port
