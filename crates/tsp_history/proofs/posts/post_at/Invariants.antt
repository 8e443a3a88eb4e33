-- The datagram that is looked for was posted before the lines that were looked at.
use Rattle.std.proofs.Common.{◌<◌, ◌≤◌, length, take}
use Rattle.tsp_base.specs.Words.{dids, posted}
use Rattle.tsp_history.specs.Histories.{history_of}
use Rattle.tsp_history.proofs.posts.post_at.Given as goal

abbrev pub invariant-loop-left : goal.invariant-loop-left
invariant-loop-left l = record {
  few : l.left ≤ length l.lines;
  some : l.number < posted (dids (history_of (take l.left l.lines)));
}

abbrev pub decreases-loop-left : goal.decreases-loop-left
decreases-loop-left l = l.left
