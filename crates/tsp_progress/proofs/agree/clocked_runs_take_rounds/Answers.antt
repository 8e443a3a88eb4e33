use Rattle.tsp_progress.proofs.agree.clocked_runs_take_rounds.Goals as goal
use Rattle.tsp_progress.proofs.TakesProof.{clocked_runs_take_rounds}

pub returns : goal.returns
returns c = clocked_runs_take_rounds
