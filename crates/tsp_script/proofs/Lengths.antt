-- How long numbers are at most.
use Rattle.std.proofs.Common.{ℕ, ◌^◌, ◌<◌, ◌≤◌, suc, length, arith, ℤ, pos, negsuc, decimal, nat_abs}
use Rattle.std.{proofs.lemmas.Fmt.length-decimal-le, specs.Fmt.signed_decimal, specs.Int.w64, specs.Int.RustNames.FitsSigned}

pub number_length : (n : ℕ) → n < 2 ^ 64 → length (decimal n) ≤ 20
number_length n h = length-decimal-le 20 n (omega arith) (omega arith) h

pub size_length : (n : ℕ) → n ≤ 2 ^ 63 → length (decimal n) ≤ 19
size_length n h = length-decimal-le 19 n (omega arith) (omega arith) (omega arith)

-- a number of 64 bits with its sign is at most this far from 0
pub signed_size : (z : ℤ) → FitsSigned w64 z → nat_abs z ≤ 2 ^ 63
signed_size (pos n) h = omega (arith, h.sfits)
signed_size (negsuc n) h = omega (arith, h.sfits)

-- a time of at most 63 bits, with its sign
pub signed_length : (t : ℤ) → nat_abs t ≤ 2147483648000000 → length (signed_decimal t) ≤ 20
signed_length (pos n) h = number_length n (omega (arith, h))
signed_length (negsuc n) h = omega (arith, length-decimal-le 19 (suc n) (omega arith) (omega (arith, h)) (omega (arith, h)))
