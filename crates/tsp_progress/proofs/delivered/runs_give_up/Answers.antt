use Rattle.tsp_progress.proofs.delivered.runs_give_up.Goals as goal
use Rattle.tsp_progress.proofs.GiveUpProof.{runs_give_up}

pub returns : goal.returns
returns c = runs_give_up
