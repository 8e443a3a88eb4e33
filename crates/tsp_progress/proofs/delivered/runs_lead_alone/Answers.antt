use Rattle.tsp_progress.proofs.delivered.runs_lead_alone.Goals as goal
use Rattle.tsp_progress.proofs.NoSecondProof.{runs_lead_alone}

pub returns : goal.returns
returns c = runs_lead_alone
