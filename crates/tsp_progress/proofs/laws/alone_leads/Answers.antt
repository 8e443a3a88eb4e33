use Rattle.tsp_progress.proofs.laws.alone_leads.Goals as goal
use Rattle.tsp_progress.proofs.AloneLeadsProof.{alone_leads}

pub returns : goal.returns
returns c = alone_leads
