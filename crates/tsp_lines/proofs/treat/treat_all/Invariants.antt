use Rattle.std.proofs.Common.{◌≡◌, ◌≤◌, ◌+◌, ◌-◌, ℕ, List, length, false}
use Rattle.tsp_lines.specs.{Outcomes.KeepsUp, Turns.IsAt}
use Rattle.tsp_lines.proofs.treat.treat_all.Given as goal

abbrev pub invariant-loop-progress : goal.invariant-loop-progress
invariant-loop-progress g l =
    ((lines : List (List ℕ)) × (text : List ℕ) × IsAt g.T.Treatment.meaning (g.T.Treatment.stands l.treatment) (g.S.Source.left l.fn.source)
    (g.S.Source.left l.source) (g.K.Sink.written l.fn.sink) (g.K.Sink.written l.sink) l.progress.reader l.progress.output l.progress.number lines text)
    × KeepsUp g.T.Treatment.meaning l.limit (g.S.Source.left l.fn.source) (g.S.Source.left l.source) (g.K.Sink.written l.fn.sink) (g.K.Sink.written l.sink)
    × (g.S.Source.ended l.source ≡ false) × (l.progress.number + length l.progress.reader.held ≤ l.progress.reader.got + 1) ×
    (l.progress.reader.limit ≡ l.limit)
    × (g.S.Source.faults l.source ≡ g.S.Source.faults l.fn.source) × (g.K.Sink.faults l.sink ≡ g.K.Sink.faults l.fn.sink)

abbrev pub decreases-loop-progress : goal.decreases-loop-progress
decreases-loop-progress g l = l.progress.reader.limit + 1 - l.progress.reader.got + length l.progress.reader.held
