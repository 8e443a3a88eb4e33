use Rattle.tsp_progress.proofs.members.clocked_runs_stay_member.Goals as goal
use Rattle.tsp_progress.proofs.SettlesProof.{clocked_runs_stay_member}

pub returns : goal.returns
returns c = clocked_runs_stay_member
