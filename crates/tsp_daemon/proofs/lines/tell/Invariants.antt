-- The lines written so far, and those that are still to be.
use Rattle.std.proofs.Common.{◌≡◌, ◌≤◌, ◌+◌, ◌++◌, ℕ, List, drop}
use Rattle.tsp_io.specs.Streams.{Grows}
use Rattle.tsp_daemon.specs.Posts.{act_lines}
use Rattle.tsp_daemon.proofs.lines.tell.Given as goal

abbrev pub invariant-loop-placed : goal.invariant-loop-placed
invariant-loop-placed g l = record {
  told : (done : List ℕ) × Grows (g.K.Sink.written l.initial.sink) (g.K.Sink.written l.sink) done × (act_lines l.turn l.tick l.first l.acts ≡ done ++
      act_lines l.turn l.tick l.number (drop l.placed-index l.acts));
  few : l.number ≤ l.first + l.placed-index;
  still : g.K.Sink.faults l.sink ≡ g.K.Sink.faults l.initial.sink;
}
