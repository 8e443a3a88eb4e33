use Rattle.tsp_run.proofs.laws.runs_fit.Goals as goal
use Rattle.tsp_run.proofs.RunFits.{runs_fit_holds}

pub returns : goal.returns
returns c = runs_fit_holds
