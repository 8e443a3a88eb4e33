use Rattle.tsp_progress.proofs.gather.clocked_runs_come_to_leader.Goals as goal
use Rattle.tsp_progress.proofs.LeadOnlyProof.{clocked_runs_come_to_leader}

pub returns : goal.returns
returns c = clocked_runs_come_to_leader
