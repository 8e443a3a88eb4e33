use Rattle.tsp_progress.proofs.agree.runs_measure_table.Goals as goal
use Rattle.tsp_progress.proofs.TableSampled.{runs_measure_table}

pub returns : goal.returns
returns c = runs_measure_table
