-- The lines that were looked at leave the place as it was.
use Rattle.std.proofs.Common.{◌≡◌, ◌≤◌, true, false, length, take}
use Rattle.tsp_base.specs.Words.{of, view, begun_to, open_to}
use Rattle.tsp_history.specs.Histories.{history_of}
use Rattle.tsp_history.proofs.sends.send_begun_to.Given as goal

abbrev pub invariant-loop-left : goal.invariant-loop-left
invariant-loop-left l = record {
  few : l.left ≤ length l.lines;
  begun : l.is_open ≡ false → begun_to l.p (view l.port (of l.node (history_of l.lines))) ≡
      begun_to l.p (view l.port (of l.node (history_of (take l.left l.lines))));
  opened : l.is_open ≡ true → open_to l.p (view l.port (of l.node (history_of l.lines))) ≡
      open_to l.p (view l.port (of l.node (history_of (take l.left l.lines))));
}

abbrev pub decreases-loop-left : goal.decreases-loop-left
decreases-loop-left l = l.left
