use Rattle.tsp_progress.proofs.rivals.clocked_runs_lead_on.Goals as goal
use Rattle.tsp_progress.proofs.BesideProof.{clocked_runs_lead_on}

pub returns : goal.returns
returns c = clocked_runs_lead_on
