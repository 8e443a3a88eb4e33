-- The clock was last corrected at the tick of the row before, or at an earlier one.
use Rattle.std.proofs.Common.{◌≤◌}
use Rattle.tsp_node.specs.NodeStands.{clock_at}
use Rattle.tsp_role_tests.proofs.tests.alone.first_wrong.Given as goal

abbrev pub invariant-loop-i : goal.invariant-loop-i
invariant-loop-i l = clock_at l.node ≤ l.before
