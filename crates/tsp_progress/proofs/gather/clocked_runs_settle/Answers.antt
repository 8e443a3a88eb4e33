use Rattle.tsp_progress.proofs.gather.clocked_runs_settle.Goals as goal
use Rattle.tsp_progress.proofs.SettleRuns.{clocked_runs_settle}

pub returns : goal.returns
returns c = clocked_runs_settle
