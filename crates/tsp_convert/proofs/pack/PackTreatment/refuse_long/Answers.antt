use Rattle.std.proofs.Common.{ap, arith, length}
use Rattle.tsp_script.proofs.MessageLengths.{length_message_text}
use Rattle.tsp_convert.proofs.pack.PackTreatment.refuse_long.Goals as goal

pub returns : goal.returns
returns c = λ lines text line s a room f long start. ((λ d is. omega (arith, long, ap length is.1, length_message_text d is.0)), c.of.ensures)
