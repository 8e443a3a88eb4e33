use Rattle.tsp_progress.proofs.follow.clocked_runs_obey.Goals as goal
use Rattle.tsp_progress.proofs.ObeyedProof.{clocked_runs_obey}

pub returns : goal.returns
returns c = clocked_runs_obey
