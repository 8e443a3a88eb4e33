use Rattle.tsp_progress.proofs.follow.runs_obey.Goals as goal
use Rattle.tsp_progress.proofs.ObeyedProof.{runs_obey}

pub returns : goal.returns
returns c = runs_obey
