use Rattle.tsp_progress.proofs.rivals.runs_quit_rivals.Goals as goal
use Rattle.tsp_progress.proofs.RivalsQuitProof.{runs_quit_rivals}

pub returns : goal.returns
returns c = runs_quit_rivals
