use Rattle.std.proofs.Common.{ℤ, length, ap, arith, decimal, nat_abs}
use mir.Val.{to_z, of_z}
use Rattle.std.{proofs.lemmas.Int.to_z-of_z, specs.Int.w64}
use Rattle.tsp_script.proofs.{Lengths.size_length, Lengths.signed_size, PairDigits.length_written}
use Rattle.tsp_script.proofs.numbers.append_signed.Goals as goal

pub append_decimal-requires : goal.append_decimal-requires
append_decimal-requires c = omega (arith, size_length c.unsigned_abs.result (omega arith))

pub append_decimal-requires-else-number-lt0 : goal.append_decimal-requires-else-number-lt0
append_decimal-requires-else-number-lt0 c =
    let z = c.args.number in
    omega (arith, size_length (nat_abs z) (signed_size z c.ranges.number), ap (λ (x : ℤ). length (decimal (nat_abs x))) (to_z-of_z w64 z c.ranges.number))

pub returns-then-number-lt0-clause-short : goal.returns-then-number-lt0-clause-short
returns-then-number-lt0-clause-short c =
    omega (
      arith,
      size_length c.unsigned_abs.result (omega arith),
      length_written c.push.new.self.items c.append_decimal.new.out.items
          (decimal c.unsigned_abs.result) c.append_decimal.ensures,
    )

pub returns-else-number-lt0-clause-short : goal.returns-else-number-lt0-clause-short
returns-else-number-lt0-clause-short c =
    let z = c.args.number in
    let written = length_written c.args.out.now.items c.append_decimal-else-number-lt0.new.out.items (decimal (nat_abs (to_z w64 (of_z w64 z))))
    c.append_decimal-else-number-lt0.ensures in
    omega (
      arith,
      size_length (nat_abs z) (signed_size z c.ranges.number),
      ap (λ (x : ℤ). length (decimal (nat_abs x))) (to_z-of_z w64 z c.ranges.number),
      written,
    )
