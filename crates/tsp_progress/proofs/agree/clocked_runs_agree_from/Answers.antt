use Rattle.tsp_progress.proofs.agree.clocked_runs_agree_from.Goals as goal
use Rattle.tsp_progress.proofs.AgreesFromProof.{clocked_runs_agree_from}

pub returns : goal.returns
returns c = clocked_runs_agree_from
