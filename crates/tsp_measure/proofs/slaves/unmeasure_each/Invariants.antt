-- The entries so far are changed.
use Rattle.std.proofs.Common.{◌≡◌, ◌++◌, map, take, drop}
use Rattle.tsp_measure.specs.Slaves.{unmeasures}
use Rattle.tsp_measure.proofs.slaves.unmeasure_each.Given as goal

abbrev pub invariant-loop-entry : goal.invariant-loop-entry
invariant-loop-entry l = l.entries ≡ map unmeasures (take l.entry-index l.fn.entries) ++ drop l.entry-index l.fn.entries
