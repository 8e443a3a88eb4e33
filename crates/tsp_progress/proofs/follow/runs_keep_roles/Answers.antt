use Rattle.tsp_progress.proofs.follow.runs_keep_roles.Goals as goal
use Rattle.tsp_progress.proofs.RolesProof.{runs_keep_roles}

pub returns : goal.returns
returns c = runs_keep_roles
