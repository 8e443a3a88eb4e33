use Rattle.tsp_progress.proofs.table.all_correct.Goals as goal
use Rattle.tsp_progress.proofs.CorrectsProof.{all_correct}

pub returns : goal.returns
returns c = all_correct
