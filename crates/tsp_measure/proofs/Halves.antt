-- Lemmas on half of a whole number.
use Rattle.std.proofs.Common.{◌≡◌, refl, zero, suc, ℤ, pos, negsuc, ◌+ℤ◌, ◌-ℤ◌, ◌≤ℤ◌, arith}
use Rattle.std.{proofs.lemmas.Int.ints, specs.Int.int_div_euclid}
use Rattle.tsp_base.specs.Words.{half_down, half_up}

pub div_euclid_half : (z : ℤ) → int_div_euclid z (pos 2) ≡ half_down z
div_euclid_half (pos n) = refl
div_euclid_half (negsuc n) = refl

pub half_down_low : (z : ℤ) → (half_down z +ℤ half_down z) ≤ℤ z
half_down_low (pos n) = omega (arith, ints)
half_down_low (negsuc n) = omega (arith, ints)

pub half_down_high : (z : ℤ) → z ≤ℤ ((half_down z +ℤ half_down z) +ℤ pos 1)
half_down_high (pos n) = omega (arith, ints)
half_down_high (negsuc n) = omega (arith, ints)

-- what is left above the half below
pub half_up_is : (z : ℤ) → z -ℤ half_down z ≡ half_up z
half_up_is (pos zero) = refl
half_up_is (pos (suc n)) = omega (arith, ints)
half_up_is (negsuc n) = omega (arith, ints)
