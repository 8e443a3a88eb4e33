use Rattle.tsp_progress.proofs.table.all_measure.Goals as goal
use Rattle.tsp_progress.proofs.MeasuresProof.{all_measure}

pub returns : goal.returns
returns c = all_measure
