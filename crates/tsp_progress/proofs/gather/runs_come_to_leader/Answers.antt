use Rattle.tsp_progress.proofs.gather.runs_come_to_leader.Goals as goal
use Rattle.tsp_progress.proofs.LeadOnlyProof.{runs_come_to_leader}

pub returns : goal.returns
returns c = runs_come_to_leader
