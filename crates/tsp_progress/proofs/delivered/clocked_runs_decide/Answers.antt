use Rattle.tsp_progress.proofs.delivered.clocked_runs_decide.Goals as goal
use Rattle.tsp_progress.proofs.DecidedProof.{clocked_runs_decide}

pub returns : goal.returns
returns c = clocked_runs_decide
