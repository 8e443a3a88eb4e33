use Rattle.tsp_progress.proofs.table.all_heed.Goals as goal
use Rattle.tsp_progress.proofs.HeedsProof.{all_heed}

pub returns : goal.returns
returns c = all_heed
