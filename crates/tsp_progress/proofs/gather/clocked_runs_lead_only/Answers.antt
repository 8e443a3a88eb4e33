use Rattle.tsp_progress.proofs.gather.clocked_runs_lead_only.Goals as goal
use Rattle.tsp_progress.proofs.LeadOnlyProof.{clocked_runs_lead_only}

pub returns : goal.returns
returns c = clocked_runs_lead_only
