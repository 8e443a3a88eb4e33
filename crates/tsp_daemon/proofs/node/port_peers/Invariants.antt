-- The peers so far.
use Rattle.std.proofs.Common.{◌≡◌}
use Rattle.tsp_daemon.specs.Nodes.{port_peers}
use Rattle.tsp_daemon.proofs.node.port_peers.Given as goal

abbrev pub invariant-loop-more : goal.invariant-loop-more
invariant-loop-more l = l.peers.items ≡ port_peers l.done l.more
