use Rattle.tsp_progress.proofs.elections.runs_win_alone.Goals as goal
use Rattle.tsp_progress.proofs.LoneWinsProof.{runs_win_alone}

pub returns : goal.returns
returns c = runs_win_alone
