use Rattle.tsp_progress.proofs.rivals.runs_ask_rivals.Goals as goal
use Rattle.tsp_progress.proofs.AskNodes.{runs_ask_rivals}

pub returns : goal.returns
returns c = runs_ask_rivals
