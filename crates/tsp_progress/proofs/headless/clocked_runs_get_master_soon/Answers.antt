use Rattle.tsp_progress.proofs.headless.clocked_runs_get_master_soon.Goals as goal
use Rattle.tsp_progress.proofs.HeadlessSoon.{clocked_runs_get_master_soon}

pub returns : goal.returns
returns c = clocked_runs_get_master_soon
