use Rattle.tsp_run.proofs.laws.runs_keep_promises.Goals as goal
use Rattle.tsp_run.proofs.RunPromises.{runs_keep_promises_holds}

pub returns : goal.returns
returns c = runs_keep_promises_holds
