-- The header has no networks.
use Rattle.std.proofs.Common.{◌≡◌, []}
use Rattle.tsp_audit_tests.proofs.tests.claiming.header_of.Given as goal

abbrev pub invariant-loop-clock : goal.invariant-loop-clock
invariant-loop-clock l = l.header.nets ≡ []
