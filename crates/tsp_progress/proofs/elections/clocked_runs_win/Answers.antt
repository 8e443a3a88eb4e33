use Rattle.tsp_progress.proofs.elections.clocked_runs_win.Goals as goal
use Rattle.tsp_progress.proofs.WinsUnopposedProof.{clocked_runs_win}

pub returns : goal.returns
returns c = clocked_runs_win
