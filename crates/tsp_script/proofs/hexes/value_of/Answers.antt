use Rattle.std.proofs.Common.{arith}
use Rattle.tsp_script.proofs.HexDigits.{VALUES_at}
use Rattle.tsp_script.proofs.hexes.value_of.Goals as goal

pub returns : goal.returns
returns c = VALUES_at c.args.octet (omega arith)
