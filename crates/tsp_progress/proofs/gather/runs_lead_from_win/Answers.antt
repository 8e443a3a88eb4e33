use Rattle.tsp_progress.proofs.gather.runs_lead_from_win.Goals as goal
use Rattle.tsp_progress.proofs.LeadOnlyProof.{runs_lead_from_win}

pub returns : goal.returns
returns c = runs_lead_from_win
