-- The marks so far are taken away.
use Rattle.std.proofs.Common.{◌≡◌, ◌≤◌, ◌++◌, false, length, drop, replicate}
use Rattle.tsp_resolve.proofs.marks.unset_each.Given as goal

abbrev pub invariant-loop-mark : goal.invariant-loop-mark
invariant-loop-mark l = (l.marks ≡ replicate l.mark-index false ++ drop l.mark-index l.fn.marks) × (l.mark-index ≤ length l.fn.marks)
