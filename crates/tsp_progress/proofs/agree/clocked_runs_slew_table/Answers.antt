use Rattle.tsp_progress.proofs.agree.clocked_runs_slew_table.Goals as goal
use Rattle.tsp_progress.proofs.SlewsProof.{clocked_runs_slew_table}

pub returns : goal.returns
returns c = clocked_runs_slew_table
