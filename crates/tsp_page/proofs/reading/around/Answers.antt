use Rattle.std.proofs.Common.{arith, ◌≡◌, pos, ◌+ℤ◌, ◌-ℤ◌, w64, to_z, of_z, refl}
use Rattle.std.proofs.lemmas.Int.{ints}
use Rattle.tsp_page.proofs.reading.around.Goals as goal

pub returns : goal.returns
returns c =
    let low : to_z w64 (of_z w64 (to_z w64 (of_z w64 (to_z w64 (of_z w64 c.args.target) +ℤ to_z w64 (of_z w64 c.args.low))) -ℤ to_z w64 c.args.apart))
    ≡ (c.args.target +ℤ c.args.low) -ℤ pos c.args.apart = omega (arith, ints, c.requires.target, c.requires.low, c.requires.apart) in
    let high : to_z w64 (of_z w64 (to_z w64 (of_z w64 (to_z w64 (of_z w64 c.args.target) +ℤ to_z w64 (of_z w64 c.args.high))) +ℤ to_z w64 c.args.apart))
    ≡ (c.args.target +ℤ c.args.high) +ℤ pos c.args.apart = omega (arith, ints, c.requires.target, c.requires.high, c.requires.apart) in
    rw (low, high) refl
