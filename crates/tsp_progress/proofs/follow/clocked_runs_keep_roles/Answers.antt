use Rattle.tsp_progress.proofs.follow.clocked_runs_keep_roles.Goals as goal
use Rattle.tsp_progress.proofs.RolesProof.{clocked_runs_keep_roles}

pub returns : goal.returns
returns c = clocked_runs_keep_roles
