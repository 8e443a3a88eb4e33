use Rattle.tsp_progress.proofs.headless.clocked_runs_get_master.Goals as goal
use Rattle.tsp_progress.proofs.HeadlessProof.{clocked_runs_get_master}

pub returns : goal.returns
returns c = clocked_runs_get_master
