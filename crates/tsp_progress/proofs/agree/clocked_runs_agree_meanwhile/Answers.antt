use Rattle.tsp_progress.proofs.agree.clocked_runs_agree_meanwhile.Goals as goal
use Rattle.tsp_progress.proofs.AgreesMeanwhileProof.{clocked_runs_agree_meanwhile}

pub returns : goal.returns
returns c = clocked_runs_agree_meanwhile
