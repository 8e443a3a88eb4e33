use Rattle.tsp_progress.proofs.laws.clocked_runs_progress.Goals as goal
use Rattle.tsp_progress.proofs.ProgressProof.{clocked_runs_progress}

pub returns : goal.returns
returns c = clocked_runs_progress
