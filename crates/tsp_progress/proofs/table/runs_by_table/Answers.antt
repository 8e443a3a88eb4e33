use Rattle.tsp_progress.proofs.table.runs_by_table.Goals as goal
use Rattle.tsp_progress.proofs.TableProof.{runs_by_table}

pub returns : goal.returns
returns c = runs_by_table
