-- The lines that were looked at tell nothing of it.
use Rattle.std.proofs.Common.{◌≡◌, ◌≤◌, length, take}
use Rattle.tsp_base.specs.Words.{of, view, acting}
use Rattle.tsp_history.specs.Histories.{history_of}
use Rattle.tsp_history.proofs.posts.is_acting.Given as goal

abbrev pub invariant-loop-left : goal.invariant-loop-left
invariant-loop-left l = record {
  few : l.left ≤ length l.lines;
  same : acting (view l.port (of l.node (history_of l.lines))) ≡ acting (view l.port (of l.node (history_of (take l.left l.lines))));
}

abbrev pub decreases-loop-left : goal.decreases-loop-left
decreases-loop-left l = l.left
