use Rattle.tsp_progress.proofs.members.runs_take_no_date.Goals as goal
use Rattle.tsp_progress.proofs.NoDateProof.{runs_take_no_date}

pub returns : goal.returns
returns c = runs_take_no_date
