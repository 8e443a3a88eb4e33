-- A counter gains less than a 512th.
use Rattle.std.proofs.Common.{◌<◌, subst}
use Rattle.tsp_base.specs.Words.{tick_at}
use Rattle.tsp_rules.specs.Values.{NodeLine}
use Rattle.tsp_world.proofs.ReadyLemmas.{tick_at_before}
use Rattle.tsp_world.proofs.world.World.is_before.Goals as goal

pub returns-then-at-tick : goal.returns-then-at-tick
returns-then-at-tick c is =
    let line = c.line-line.result.now in
    subst (λ (l : NodeLine). tick_at l.rate c.args.at < c.args.tick) c.line-line.ensures.line
    (tick_at_before line.rate c.args.at c.args.tick c.line-line.ensures.kept.rate c.if-at-tick.true)
