use Rattle.tsp_promises.proofs.promised.LookedProof.{looked}
use Rattle.tsp_promises.proofs.looks.looks_bound_clocks.Goals as goal

pub returns : goal.returns
returns c = looked
