use Rattle.tsp_progress.proofs.rivals.clocked_runs_tell.Goals as goal
use Rattle.tsp_progress.proofs.MastersTellProof.{clocked_runs_tell}

pub returns : goal.returns
returns c = clocked_runs_tell
