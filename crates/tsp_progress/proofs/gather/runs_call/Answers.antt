use Rattle.tsp_progress.proofs.gather.runs_call.Goals as goal
use Rattle.tsp_progress.proofs.CallingProof.{runs_call}

pub returns : goal.returns
returns c = runs_call
