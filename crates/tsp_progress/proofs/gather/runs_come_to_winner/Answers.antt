use Rattle.tsp_progress.proofs.gather.runs_come_to_winner.Goals as goal
use Rattle.tsp_progress.proofs.LeadOnlyProof.{runs_come_to_winner}

pub returns : goal.returns
returns c = runs_come_to_winner
