use Rattle.tsp_progress.proofs.delivered.clocked_runs_find.Goals as goal
use Rattle.tsp_progress.proofs.FoundProof.{clocked_runs_find}

pub returns : goal.returns
returns c = clocked_runs_find
