use Rattle.tsp_progress.proofs.table.clocked_runs_by_table.Goals as goal
use Rattle.tsp_progress.proofs.TableProof.{clocked_runs_by_table}

pub returns : goal.returns
returns c = clocked_runs_by_table
