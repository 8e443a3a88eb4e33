use Rattle.tsp_progress.proofs.agree.clocked_runs_measure_table.Goals as goal
use Rattle.tsp_progress.proofs.TableSampled.{clocked_runs_measure_table}

pub returns : goal.returns
returns c = clocked_runs_measure_table
