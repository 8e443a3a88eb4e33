use Rattle.tsp_progress.proofs.laws.lone_leads.Goals as goal
use Rattle.tsp_progress.proofs.LoneProof.{lone_leads}

pub returns : goal.returns
returns c = lone_leads
