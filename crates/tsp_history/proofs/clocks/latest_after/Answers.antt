use Rattle.std.proofs.Common.{ap, sym, subst, ◌∷◌, Some}
use Rattle.tsp_history.specs.{Histories.line_of, Histories.deed_of, Spacing.SpacedBy}
use Rattle.tsp_history.proofs.SpacingLemmas.{no_boot, no_correct, spaced_later, spaced_new, spaced_plain}
use Rattle.tsp_history.proofs.clocks.latest_after.Goals as goal

pub returns-in-Boot : goal.returns-in-Boot
returns-in-Boot c before s = spaced_new c.args.node (line_of c.args.line.now) before c.if-line-node.false (ap deed_of c.in-Boot.ensures.act.1)

pub returns-in-Correct : goal.returns-in-Correct
returns-in-Correct c before s =
    subst (λ t. SpacedBy c.args.node (line_of c.args.line.now ∷ before) (Some t)) (sym c.later.ensures)
    (spaced_later c.args.node (line_of c.args.line.now) before c.args.was _ _ _ c.if-line-node.false (ap deed_of c.in-Correct.ensures.act.1) s)

pub returns-in_default : goal.returns-in_default
returns-in_default c before s =
    λ x b far. spaced_plain b c.args.node x (line_of c.args.line.now) before c.if-line-node.false
    (no_boot c.args.line.now.act c.brief.result c.brief.ensures.act c.in_default.not-Boot)
    (no_correct c.args.line.now.act c.brief.result c.brief.ensures.act c.in_default.not-Correct) (s x b far)
