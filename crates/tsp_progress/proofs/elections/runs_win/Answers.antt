use Rattle.tsp_progress.proofs.elections.runs_win.Goals as goal
use Rattle.tsp_progress.proofs.WinsUnopposedProof.{runs_win}

pub returns : goal.returns
returns c = runs_win
