use Rattle.tsp_progress.proofs.headless.runs_get_master_soon.Goals as goal
use Rattle.tsp_progress.proofs.HeadlessSoon.{runs_get_master_soon}

pub returns : goal.returns
returns c = runs_get_master_soon
