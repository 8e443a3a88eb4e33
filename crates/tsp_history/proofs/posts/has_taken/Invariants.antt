-- The lines that were looked at tell nothing of it.
use Rattle.std.proofs.Common.{◌≡◌, ◌≤◌, length, take, is_some}
use Rattle.tsp_base.specs.Words.{dids, of, heard}
use Rattle.tsp_history.specs.Histories.{history_of}
use Rattle.tsp_history.proofs.posts.has_taken.Given as goal

abbrev pub invariant-loop-left : goal.invariant-loop-left
invariant-loop-left l = record {
  few : l.left ≤ length l.lines;
  same : is_some (heard (dids (of l.node (history_of l.lines)))) ≡ is_some (heard (dids (of l.node (history_of (take l.left l.lines)))));
}

abbrev pub decreases-loop-left : goal.decreases-loop-left
decreases-loop-left l = l.left
