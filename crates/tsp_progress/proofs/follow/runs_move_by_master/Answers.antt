use Rattle.tsp_progress.proofs.follow.runs_move_by_master.Goals as goal
use Rattle.tsp_progress.proofs.MovedByProof.{runs_move_by_master}

pub returns : goal.returns
returns c = runs_move_by_master
