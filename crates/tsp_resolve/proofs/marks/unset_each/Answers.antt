-- One mark more is taken away; at the end all are.
use Rattle.std.proofs.Common.{refl, arith}
use Rattle.tsp_resolve.proofs.MarksLemmas.{unset_all, unset_more}
use Rattle.tsp_resolve.proofs.marks.unset_each.Goals as goal

pub loop-mark-init : goal.loop-mark-init
loop-mark-init c = (refl, omega arith)

pub loop-mark-preserved : goal.loop-mark-preserved
loop-mark-preserved c = (
  unset_more c.args.marks.now c.loop-mark.marks c.loop-mark.mark-index c.loop-mark-test.true c.loop-mark.invariant.0,
  omega (arith, c.loop-mark-test.true),
)

pub returns : goal.returns
returns c = unset_all c.args.marks.now c.loop-mark.marks c.loop-mark.mark-index c.loop-mark-test.false c.loop-mark.invariant.1 c.loop-mark.invariant.0
