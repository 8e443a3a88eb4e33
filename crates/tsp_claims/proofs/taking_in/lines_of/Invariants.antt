-- What was noted, and what is still to be noted.
use Rattle.std.proofs.Common.{◌≡◌, ◌+◌, List, drop, vec_len}
use Rattle.tsp_base.specs.Words.{Line, joined, stepped}
use Rattle.tsp_claims.specs.{Fitting.acts_of, Steps.step_by}
use Rattle.tsp_history.specs.Histories.{noted_after}
use Rattle.tsp_claims.proofs.taking_in.lines_of.Given as goal

abbrev pub invariant-loop-line : goal.invariant-loop-line
invariant-loop-line l = record {
  lines : (h : List Line) → joined (step_by l.step) l.step.tick (acts_of (drop l.line-index l.acts)) (noted_after h l.lines.items) ≡
      stepped (step_by l.step) l.step.tick (acts_of l.acts) h;
  many : vec_len l.lines ≡ l.line-index + 1;
}
