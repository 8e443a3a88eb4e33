use Rattle.tsp_progress.proofs.gather.clocked_runs_come_to_winner.Goals as goal
use Rattle.tsp_progress.proofs.LeadOnlyProof.{clocked_runs_come_to_winner}

pub returns : goal.returns
returns c = clocked_runs_come_to_winner
