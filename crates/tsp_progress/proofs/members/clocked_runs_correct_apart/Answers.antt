use Rattle.tsp_progress.proofs.members.clocked_runs_correct_apart.Goals as goal
use Rattle.tsp_progress.proofs.SettlesProof.{clocked_runs_correct_apart}

pub returns : goal.returns
returns c = clocked_runs_correct_apart
