use Rattle.std.proofs.Common.{arith, decimal}
use Rattle.tsp_script.proofs.{Lengths.number_length, PairDigits.length_written}
use Rattle.tsp_script.proofs.numbers.append_number.Goals as goal

pub append_decimal-requires : goal.append_decimal-requires
append_decimal-requires c = omega (arith, number_length c.args.number (omega arith))

pub returns-clause-short : goal.returns-clause-short
returns-clause-short c = omega (
  arith,
  number_length c.args.number (omega arith),
  length_written c.args.out.now.items c.append_decimal.new.out.items (decimal c.args.number) c.append_decimal.ensures,
)
