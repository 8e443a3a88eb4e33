use Rattle.tsp_progress.proofs.rivals.runs_tell.Goals as goal
use Rattle.tsp_progress.proofs.MastersTellProof.{runs_tell}

pub returns : goal.returns
returns c = runs_tell
