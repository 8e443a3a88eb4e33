use Rattle.std.proofs.Common.{◌≡◌, length}
use Rattle.tsp_role_tests.proofs.tests.groups.listed.Given as goal

abbrev pub invariant-loop-item : goal.invariant-loop-item
invariant-loop-item l = l.values.room ≡ length l.items
