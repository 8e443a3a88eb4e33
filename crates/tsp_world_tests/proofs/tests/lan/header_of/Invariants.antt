-- The header has no networks yet.
use Rattle.std.proofs.Common.{◌≡◌, []}
use Rattle.tsp_world_tests.proofs.tests.lan.header_of.Given as goal

abbrev pub invariant-loop-node : goal.invariant-loop-node
invariant-loop-node l = l.header.nets ≡ []
