use Rattle.tsp_progress.proofs.members.clocked_runs_take_no_date.Goals as goal
use Rattle.tsp_progress.proofs.NoDateProof.{clocked_runs_take_no_date}

pub returns : goal.returns
returns c = clocked_runs_take_no_date
