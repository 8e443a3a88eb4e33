use Rattle.tsp_run.proofs.laws.clocked_runs_fit.Goals as goal
use Rattle.tsp_run.proofs.RunFits.{clocked_runs_fit}

pub returns : goal.returns
returns c = clocked_runs_fit
