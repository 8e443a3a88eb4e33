use Rattle.tsp_progress.proofs.agree.clocked_runs_agree_until_next.Goals as goal
use Rattle.tsp_progress.proofs.AgreesOnProof.{clocked_runs_agree_until_next}

pub returns : goal.returns
returns c = clocked_runs_agree_until_next
