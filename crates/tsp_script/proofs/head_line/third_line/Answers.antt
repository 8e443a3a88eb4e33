use Rattle.std.proofs.Common.{arith}
use Rattle.tsp_script.proofs.HeadLines.{reads_later}
use Rattle.tsp_script.proofs.head_line.third_line.Goals as goal

pub returns : goal.returns
returns c = reads_later 3 c.args.line.now c.later_line.result (omega arith) (λ e. c.if-is_same.ensures) c.later_line.ensures
