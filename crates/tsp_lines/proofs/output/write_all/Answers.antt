use Rattle.std.proofs.Common.{arith, length-drop, ℕ, ◌∙◌}
use Rattle.tsp_lines.proofs.Outputs.{Grows_take}
use Rattle.tsp_lines.proofs.output.write_all.Goals as goal

pub loop-at-preserved : goal.loop-at-preserved
loop-at-preserved g c =
    let i = c.loop-at.invariant in
    let w = c.in-Took.ensures.writes in
    let took = c.in-Took.is in
    (omega (arith, length-drop {A = ℕ}, i.0, w.1), Grows_take _ _ _ _ _ _ i.1 w.2, c.in-Took.ensures.still (λ e. cc) ∙ i.2)
