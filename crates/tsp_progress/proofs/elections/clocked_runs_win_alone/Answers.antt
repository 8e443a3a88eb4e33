use Rattle.tsp_progress.proofs.elections.clocked_runs_win_alone.Goals as goal
use Rattle.tsp_progress.proofs.LoneWinsProof.{clocked_runs_win_alone}

pub returns : goal.returns
returns c = clocked_runs_win_alone
