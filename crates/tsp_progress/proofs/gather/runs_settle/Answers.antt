use Rattle.tsp_progress.proofs.gather.runs_settle.Goals as goal
use Rattle.tsp_progress.proofs.SettleRuns.{runs_settle}

pub returns : goal.returns
returns c = runs_settle
