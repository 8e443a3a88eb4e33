-- The lines that were looked at are marks.
use Rattle.std.proofs.Common.{◌≡◌, ◌≤◌, length, take}
use Rattle.tsp_audit.specs.Leading.{closing}
use Rattle.tsp_history.specs.Histories.{history_of}
use Rattle.tsp_audit.proofs.leading.closes_last.Given as goal

abbrev pub invariant-loop-left : goal.invariant-loop-left
invariant-loop-left l = record {
  few : l.left ≤ length l.lines;
  same : closing (history_of l.lines) ≡ closing (history_of (take l.left l.lines));
}

abbrev pub decreases-loop-left : goal.decreases-loop-left
decreases-loop-left l = l.left
