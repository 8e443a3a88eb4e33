-- The entries so far are changed.
use Rattle.std.proofs.Common.{◌≡◌, ◌++◌, map, take, drop}
use Rattle.tsp_measure.specs.Slaves.{leaves}
use Rattle.tsp_measure.proofs.slaves.leave_each.Given as goal

abbrev pub invariant-loop-entry : goal.invariant-loop-entry
invariant-loop-entry l = l.entries ≡ map leaves (take l.entry-index l.fn.entries) ++ drop l.entry-index l.fn.entries
