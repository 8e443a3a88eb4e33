use Rattle.tsp_run.proofs.laws.possible_runs_fit.Goals as goal
use Rattle.tsp_run.proofs.RunFits.{possible_runs_fit_holds}

pub returns : goal.returns
returns c = possible_runs_fit_holds
