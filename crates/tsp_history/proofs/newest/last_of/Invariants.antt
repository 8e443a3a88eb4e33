-- None of the lines that were looked at is the node's.
use Rattle.std.proofs.Common.{◌≤◌, length, take}
use Rattle.tsp_history.specs.{Histories.history_of, Notes.Quiet}
use Rattle.tsp_history.proofs.newest.last_of.Given as goal

abbrev pub invariant-loop-left : goal.invariant-loop-left
invariant-loop-left l = record {
  few : l.left ≤ length l.lines;
  quiet : Quiet l.node (history_of (take l.left l.lines)) (history_of l.lines);
}

abbrev pub decreases-loop-left : goal.decreases-loop-left
decreases-loop-left l = l.left
