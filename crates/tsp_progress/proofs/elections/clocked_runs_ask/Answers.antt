use Rattle.tsp_progress.proofs.elections.clocked_runs_ask.Goals as goal
use Rattle.tsp_progress.proofs.AsksAllProof.{clocked_runs_ask}

pub returns : goal.returns
returns c = clocked_runs_ask
