-- The clock was last corrected at tick 0, if at all.
use Rattle.std.proofs.Common.{◌≤◌}
use Rattle.tsp_role_tests.proofs.tests.clock.first_wrong.Given as goal

abbrev pub invariant-loop-i : goal.invariant-loop-i
invariant-loop-i l = l.clock.at ≤ 0
