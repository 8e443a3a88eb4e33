use Rattle.tsp_progress.proofs.laws.one_leads_run.Goals as goal
use Rattle.tsp_progress.proofs.HumbleRun.{one_leads_run}

pub returns : goal.returns
returns c = one_leads_run
