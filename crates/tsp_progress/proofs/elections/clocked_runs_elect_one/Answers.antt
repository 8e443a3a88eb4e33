use Rattle.tsp_progress.proofs.elections.clocked_runs_elect_one.Goals as goal
use Rattle.tsp_progress.proofs.ElectOneProof.{clocked_runs_elect_one}

pub returns : goal.returns
returns c = clocked_runs_elect_one
