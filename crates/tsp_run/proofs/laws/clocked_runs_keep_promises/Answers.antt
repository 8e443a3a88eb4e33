use Rattle.tsp_run.proofs.laws.clocked_runs_keep_promises.Goals as goal
use Rattle.tsp_run.proofs.RunPromises.{clocked_runs_keep_promises}

pub returns : goal.returns
returns c = clocked_runs_keep_promises
