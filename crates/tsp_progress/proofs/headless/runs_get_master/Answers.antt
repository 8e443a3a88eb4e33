use Rattle.tsp_progress.proofs.headless.runs_get_master.Goals as goal
use Rattle.tsp_progress.proofs.HeadlessProof.{runs_get_master}

pub returns : goal.returns
returns c = runs_get_master
