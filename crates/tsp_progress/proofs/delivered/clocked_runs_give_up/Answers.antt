use Rattle.tsp_progress.proofs.delivered.clocked_runs_give_up.Goals as goal
use Rattle.tsp_progress.proofs.GiveUpProof.{clocked_runs_give_up}

pub returns : goal.returns
returns c = clocked_runs_give_up
