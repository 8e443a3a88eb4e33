use Rattle.tsp_progress.proofs.members.runs_correct_apart.Goals as goal
use Rattle.tsp_progress.proofs.SettlesProof.{runs_correct_apart}

pub returns : goal.returns
returns c = runs_correct_apart
