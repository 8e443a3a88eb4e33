use Rattle.tsp_progress.proofs.gather.clocked_runs_lead_from_win.Goals as goal
use Rattle.tsp_progress.proofs.LeadOnlyProof.{clocked_runs_lead_from_win}

pub returns : goal.returns
returns c = clocked_runs_lead_from_win
