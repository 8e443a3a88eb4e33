use Rattle.tsp_progress.proofs.gather.clocked_runs_call.Goals as goal
use Rattle.tsp_progress.proofs.CallingProof.{clocked_runs_call}

pub returns : goal.returns
returns c = clocked_runs_call
