-- A peer at a place is one of the peers.
use Rattle.std.proofs.Common.{◌<◌, length, rules}
use Rattle.std.proofs.lemmas.List.{get_or_default}
use Rattle.tsp_role_tests.proofs.tests.node.Node.peer_at.Goals as goal

pub returns : goal.returns
returns c =
    let inside : c.args.place < length c.args.self.now.station.peers = search rules in
    rw c.peers-peers.ensures.value (c.args.place, inside, get_or_default _ _ _ _ inside)
