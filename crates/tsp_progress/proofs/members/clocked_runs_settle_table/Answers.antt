use Rattle.tsp_progress.proofs.members.clocked_runs_settle_table.Goals as goal
use Rattle.tsp_progress.proofs.SettlesProof.{clocked_runs_settle_table}

pub returns : goal.returns
returns c = clocked_runs_settle_table
