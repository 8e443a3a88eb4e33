-- What was handed over, and what is still to be.
use Rattle.std.proofs.Common.{◌≡◌, ◌≤◌, ◌++◌, List, ℕ, drop}
use Rattle.tsp_lines.specs.Outputs.{Hands}
use Rattle.tsp_icmp_command.specs.Bests.{corrections}
use Rattle.tsp_icmp_command.proofs.summary.tell_corrections.Given as goal

abbrev pub invariant-loop-best : goal.invariant-loop-best
invariant-loop-best g l = record {
  told : (done : List ℕ) × Hands (g.K.Sink.written l.initial.sink) l.initial.output (g.K.Sink.written l.sink) l.output done ×
      (corrections l.fn.mean l.bests ≡ done ++ corrections l.fn.mean (drop l.best-index l.bests));
  later : g.K.Sink.faults l.initial.sink ≤ g.K.Sink.faults l.sink;
  still : g.K.Sink.faults l.sink ≡ g.K.Sink.faults l.initial.sink;
}
