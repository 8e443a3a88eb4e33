use Rattle.tsp_progress.proofs.rivals.runs_find_rivals.Goals as goal
use Rattle.tsp_progress.proofs.RivalsFoundProof.{runs_find_rivals}

pub returns : goal.returns
returns c = runs_find_rivals
