-- What was handed over, and what is still to be.
use Rattle.std.proofs.Common.{◌≡◌, ◌++◌, List, ℕ, drop}
use Rattle.tsp_lines.specs.Outputs.{Hands}
use Rattle.tsp_replay.specs.Traces.{lines_text}
use Rattle.tsp_replay.proofs.tell.tell.Given as goal

abbrev pub invariant-loop-line : goal.invariant-loop-line
invariant-loop-line g l = record {
  told : (done : List ℕ) × Hands (g.K.Sink.written l.initial.sink) l.initial.output (g.K.Sink.written l.sink) l.output done ×
      (lines_text l.lines ≡ done ++ lines_text (drop l.line-index l.lines));
  still : g.K.Sink.faults l.sink ≡ g.K.Sink.faults l.initial.sink;
}
