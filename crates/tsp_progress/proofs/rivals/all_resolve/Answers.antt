use Rattle.tsp_progress.proofs.rivals.all_resolve.Goals as goal
use Rattle.tsp_progress.proofs.ResolvingProof.{all_resolve}

pub returns : goal.returns
returns c = all_resolve
