use Rattle.tsp_progress.proofs.rivals.clocked_runs_ask_rivals.Goals as goal
use Rattle.tsp_progress.proofs.AskNodes.{clocked_runs_ask_rivals}

pub returns : goal.returns
returns c = clocked_runs_ask_rivals
