use Rattle.std.proofs.Common.{arith}
use Rattle.tsp_script.proofs.digit_reader.eight_on.Goals as goal

pub returns-in-Some-clause-number : goal.returns-in-Some-clause-number
returns-in-Some-clause-number c = c.in-Some.ensures.1 c.args.front (omega arith) (omega arith)
