use Rattle.tsp_progress.proofs.agree.clocked_runs_agree_always.Goals as goal
use Rattle.tsp_progress.proofs.AgreesAlwaysProof.{clocked_runs_agree_always}

pub returns : goal.returns
returns c = clocked_runs_agree_always
