use Rattle.tsp_progress.proofs.delivered.runs_win_late.Goals as goal
use Rattle.tsp_progress.proofs.WinsLateProof.{runs_win_late}

pub returns : goal.returns
returns c = runs_win_late
