use Rattle.tsp_progress.proofs.laws.one_leads.Goals as goal
use Rattle.tsp_progress.proofs.HumbleRun.{one_leads}

pub returns : goal.returns
returns c = one_leads
