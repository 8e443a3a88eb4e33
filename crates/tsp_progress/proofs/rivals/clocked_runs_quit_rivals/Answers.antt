use Rattle.tsp_progress.proofs.rivals.clocked_runs_quit_rivals.Goals as goal
use Rattle.tsp_progress.proofs.RivalsQuitProof.{clocked_runs_quit_rivals}

pub returns : goal.returns
returns c = clocked_runs_quit_rivals
