-- The lines that were looked at leave the place as it was.
use Rattle.std.proofs.Common.{◌≡◌, ◌≤◌, length, take}
use Rattle.tsp_base.specs.Words.{of, view, exchange}
use Rattle.tsp_history.specs.Histories.{history_of}
use Rattle.tsp_history.proofs.rounds.asked_at.Given as goal

abbrev pub invariant-loop-left : goal.invariant-loop-left
invariant-loop-left l = record {
  few : l.left ≤ length l.lines;
  same : exchange l.p l.counter (view l.port (of l.node (history_of l.lines))) ≡ exchange l.p l.counter
      (view l.port (of l.node (history_of (take l.left l.lines))));
}

abbrev pub decreases-loop-left : goal.decreases-loop-left
decreases-loop-left l = l.left
