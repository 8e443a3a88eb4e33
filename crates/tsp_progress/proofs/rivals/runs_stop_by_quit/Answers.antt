use Rattle.tsp_progress.proofs.rivals.runs_stop_by_quit.Goals as goal
use Rattle.tsp_progress.proofs.RivalsQuitProof.{runs_stop_by_quit}

pub returns : goal.returns
returns c = runs_stop_by_quit
