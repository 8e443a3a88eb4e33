use Rattle.tsp_progress.proofs.laws.fresh_leads.Goals as goal
use Rattle.tsp_progress.proofs.FreshProof.{fresh_leads}

pub returns : goal.returns
returns c = fresh_leads
