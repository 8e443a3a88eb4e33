use Rattle.tsp_progress.proofs.delivered.clocked_runs_lead_alone.Goals as goal
use Rattle.tsp_progress.proofs.NoSecondProof.{clocked_runs_lead_alone}

pub returns : goal.returns
returns c = clocked_runs_lead_alone
