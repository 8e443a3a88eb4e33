use Rattle.std.proofs.Common.{ext_get_or, arith}
use Rattle.tsp_script.proofs.head_line.agree.Goals as goal

pub returns : goal.returns
returns c = ext_get_or 0 c.args.text.now c.args.other.now c.requires (λ k h. c.loop-i.invariant k (omega (arith, h)))
