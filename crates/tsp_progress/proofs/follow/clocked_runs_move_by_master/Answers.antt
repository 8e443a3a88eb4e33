use Rattle.tsp_progress.proofs.follow.clocked_runs_move_by_master.Goals as goal
use Rattle.tsp_progress.proofs.MovedByProof.{clocked_runs_move_by_master}

pub returns : goal.returns
returns c = clocked_runs_move_by_master
