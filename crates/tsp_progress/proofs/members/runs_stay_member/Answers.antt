use Rattle.tsp_progress.proofs.members.runs_stay_member.Goals as goal
use Rattle.tsp_progress.proofs.SettlesProof.{runs_stay_member}

pub returns : goal.returns
returns c = runs_stay_member
