-- What the lines so far come to, and those that are left.
use Rattle.std.proofs.Common.{◌≡◌, List, [], drop}
use Rattle.tsp_base.specs.Words.{Line, of, view}
use Rattle.tsp_promises.specs.StepFacts.{is_unbacked}
use Rattle.tsp_history.specs.Histories.{noted_after}
use Rattle.tsp_audit.proofs.backing.is_unbacked_at.Given as goal

abbrev pub invariant-loop-line : goal.invariant-loop-line
invariant-loop-line l = (h : List Line) × (l.unbacked ≡ is_unbacked (view l.port (of l.node h))) ×
    (noted_after h (drop l.line-index l.lines) ≡ noted_after [] l.lines)
