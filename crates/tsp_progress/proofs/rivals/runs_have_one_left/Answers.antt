use Rattle.tsp_progress.proofs.rivals.runs_have_one_left.Goals as goal
use Rattle.tsp_progress.proofs.OneLeftProof.{runs_have_one_left}

pub returns : goal.returns
returns c = runs_have_one_left
