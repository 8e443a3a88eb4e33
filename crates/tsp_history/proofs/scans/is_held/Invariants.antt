-- All lines so far stand apart.
use Rattle.std.proofs.Common.{◌≡◌, List, [], drop}
use Rattle.tsp_promises.specs.Everywhere.{Everywhere}
use Rattle.tsp_base.specs.Words.{Line}
use Rattle.tsp_history.specs.{Histories.noted_after, Holding.HoldsApart}
use Rattle.tsp_history.proofs.scans.is_held.Given as goal

abbrev pub invariant-loop-line : goal.invariant-loop-line
invariant-loop-line l = (h : List Line) × Everywhere (λ other older. HoldsApart l.node l.port l.tick l.p other) h ×
    (noted_after h (drop l.line-index l.lines) ≡ noted_after [] l.lines)
