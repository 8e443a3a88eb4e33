use Rattle.tsp_progress.proofs.gather.runs_lead_only.Goals as goal
use Rattle.tsp_progress.proofs.LeadOnlyProof.{runs_lead_only}

pub returns : goal.returns
returns c = runs_lead_only
