use Rattle.std.proofs.Common.{◌≡◌, take}
use Rattle.tsp_measure.specs.Measures.{best_of}
use Rattle.tsp_measure.proofs.peer_exchanges.PeerExchanges.best.Given as goal

abbrev pub invariant-loop-taken : goal.invariant-loop-taken
invariant-loop-taken l = l.best ≡ best_of (take l.taken-index l.taken-items)
