use Rattle.tsp_progress.proofs.delivered.clocked_runs_win_late.Goals as goal
use Rattle.tsp_progress.proofs.WinsLateProof.{clocked_runs_win_late}

pub returns : goal.returns
returns c = clocked_runs_win_late
