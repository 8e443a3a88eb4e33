use Rattle.tsp_progress.proofs.delivered.clocked_runs_find_first.Goals as goal
use Rattle.tsp_progress.proofs.FirstSearchProof.{clocked_runs_find_first}

pub returns : goal.returns
returns c = clocked_runs_find_first
