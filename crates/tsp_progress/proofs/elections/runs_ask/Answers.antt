use Rattle.tsp_progress.proofs.elections.runs_ask.Goals as goal
use Rattle.tsp_progress.proofs.AsksAllProof.{runs_ask}

pub returns : goal.returns
returns c = runs_ask
