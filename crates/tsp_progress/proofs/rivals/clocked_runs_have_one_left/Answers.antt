use Rattle.tsp_progress.proofs.rivals.clocked_runs_have_one_left.Goals as goal
use Rattle.tsp_progress.proofs.OneLeftProof.{clocked_runs_have_one_left}

pub returns : goal.returns
returns c = clocked_runs_have_one_left
