use Rattle.tsp_progress.proofs.rivals.clocked_runs_stop_by_quit.Goals as goal
use Rattle.tsp_progress.proofs.RivalsQuitProof.{clocked_runs_stop_by_quit}

pub returns : goal.returns
returns c = clocked_runs_stop_by_quit
