use Rattle.tsp_progress.proofs.delivered.clocked_runs_send_away.Goals as goal
use Rattle.tsp_progress.proofs.SentAwayProof.{clocked_runs_send_away}

pub returns : goal.returns
returns c = clocked_runs_send_away
