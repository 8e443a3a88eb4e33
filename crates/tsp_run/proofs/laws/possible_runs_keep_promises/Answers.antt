use Rattle.tsp_run.proofs.laws.possible_runs_keep_promises.Goals as goal
use Rattle.tsp_run.proofs.RunPromises.{possible_runs_keep_promises_holds}

pub returns : goal.returns
returns c = possible_runs_keep_promises_holds
