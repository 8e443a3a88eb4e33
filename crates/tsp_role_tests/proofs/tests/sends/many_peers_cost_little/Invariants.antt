use Rattle.std.proofs.Common.{◌≡◌}
use Rattle.tsp_sends.specs.Slots.{peers_of}
use Rattle.tsp_role_tests.proofs.tests.sends.many_peers_cost_little.Given as goal

abbrev pub invariant-loop-place : goal.invariant-loop-place
invariant-loop-place g l = peers_of l.sends ≡ l.peers.items

abbrev pub invariant-loop-round : goal.invariant-loop-round
invariant-loop-round g l = peers_of l.sends ≡ l.peers.items
