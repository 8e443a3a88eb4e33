use Rattle.tsp_progress.proofs.rivals.runs_lead_on.Goals as goal
use Rattle.tsp_progress.proofs.BesideProof.{runs_lead_on}

pub returns : goal.returns
returns c = runs_lead_on
