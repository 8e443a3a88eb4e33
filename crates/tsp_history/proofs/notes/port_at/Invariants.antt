-- What is known of the port before the lines that were looked at is known of it behind them.
use Rattle.std.proofs.Common.{◌≤◌, length, take}
use Rattle.tsp_history.specs.{Histories.history_of, Notes.PortKnown, declared.notes.PortNote.PortNote}
use Rattle.tsp_history.proofs.notes.port_at.Given as goal

abbrev pub invariant-loop-left : goal.invariant-loop-left
invariant-loop-left l = record {
  few : l.left ≤ length l.lines;
  known : (m : PortNote) → PortKnown l.node l.port (history_of (take l.left l.lines)) m → PortKnown l.node l.port (history_of l.lines) m;
}

abbrev pub decreases-loop-left : goal.decreases-loop-left
decreases-loop-left l = l.left
