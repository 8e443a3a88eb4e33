use Rattle.std.proofs.Common.{true, refl, subst}
use Rattle.tsp_history.specs.{Histories.history_of, Spacing.SpacedBy}
use Rattle.tsp_history.proofs.clocks.is_spaced.Goals as goal

pub returns-in-None : goal.returns-in-None
returns-in-None c = subst (λ o. SpacedBy c.args.node (history_of c.args.lines.now) o) c.in-None.is c.node_at.ensures.spaced c.args.tick true refl
