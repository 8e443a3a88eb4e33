use Rattle.tsp_progress.proofs.delivered.runs_send_away.Goals as goal
use Rattle.tsp_progress.proofs.SentAwayProof.{runs_send_away}

pub returns : goal.returns
returns c = runs_send_away
