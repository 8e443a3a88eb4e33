use Rattle.tsp_progress.proofs.members.runs_settle_table.Goals as goal
use Rattle.tsp_progress.proofs.SettlesProof.{runs_settle_table}

pub returns : goal.returns
returns c = runs_settle_table
