use Rattle.tsp_progress.proofs.agree.runs_slew_table.Goals as goal
use Rattle.tsp_progress.proofs.SlewsProof.{runs_slew_table}

pub returns : goal.returns
returns c = runs_slew_table
