-- There is a mark for each peer.
use Rattle.std.proofs.Common.{◌≡◌, length}
use Rattle.tsp_role_tests.proofs.tests.resolve.first_wrong.Given as goal

abbrev pub invariant-loop-i : goal.invariant-loop-i
invariant-loop-i l = length l.resolve.marks ≡ length l.node.station.peers
