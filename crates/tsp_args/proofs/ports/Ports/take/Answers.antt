use Rattle.tsp_args.proofs.WordLemmas.{peers_add}
use Rattle.tsp_args.proofs.ports.Ports.take.Goals as goal

pub returns-clause-peers : goal.returns-clause-peers
returns-clause-peers c = λ k. peers_add _ _ c.in-Some.peer c.in-Some.ensures.found.0 c.in_ok-add.ensures.peers c.in_ok-add.ensures.some k
