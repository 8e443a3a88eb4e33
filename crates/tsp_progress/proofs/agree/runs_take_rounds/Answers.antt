use Rattle.tsp_progress.proofs.agree.runs_take_rounds.Goals as goal
use Rattle.tsp_progress.proofs.TakesProof.{runs_take_rounds}

pub returns : goal.returns
returns c = runs_take_rounds
