use Rattle.tsp_base.proofs.KindLemmas.{kind_of_here}
use Rattle.tsp_base.proofs.kind.Kind.of.Goals as goal

pub returns-then-number-le24 : goal.returns-then-number-le24
returns-then-number-le24 c = kind_of_here c.args.number _ c.if-number-ge1.true c.if-number-le24.true
