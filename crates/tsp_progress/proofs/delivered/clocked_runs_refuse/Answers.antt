use Rattle.tsp_progress.proofs.delivered.clocked_runs_refuse.Goals as goal
use Rattle.tsp_progress.proofs.RefusedProof.{clocked_runs_refuse}

pub returns : goal.returns
returns c = clocked_runs_refuse
