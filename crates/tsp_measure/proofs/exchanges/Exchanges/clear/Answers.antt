-- Nothing is measured any more.
use Rattle.std.specs.Box.{boxed_slice_items}
use Rattle.tsp_measure.proofs.Peers.{at_peer_nothing}
use Rattle.tsp_measure.proofs.exchanges.Exchanges.clear.Goals as goal

pub returns-clause-nothing : goal.returns-clause-nothing
returns-clause-nothing c p = rw c.clear.ensures.items (at_peer_nothing (boxed_slice_items c.self.inside.peers) p)
