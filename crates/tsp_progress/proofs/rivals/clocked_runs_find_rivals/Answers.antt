use Rattle.tsp_progress.proofs.rivals.clocked_runs_find_rivals.Goals as goal
use Rattle.tsp_progress.proofs.RivalsFoundProof.{clocked_runs_find_rivals}

pub returns : goal.returns
returns c = clocked_runs_find_rivals
