-- Lemmas on the mean of a group.
use Rattle.std.proofs.Common.{◌≡◌, ℕ, suc, ◌*◌, ◌/◌, ◌<◌, ◌≤◌, ℤ, pos, negsuc, ◌*ℤ◌, ◌≤ℤ◌, arith, FitsSigned, unsigned_abs}
use Rattle.std.specs.Int.{int_div_euclid, w128}
use mir.Val.{to_z, of_z}
use Rattle.std.proofs.{Math.Nat.div-lt_iff_lt-mul, lemmas.Int.ints, lemmas.Int.to_z-of_z, lemmas.Nat.le-div}
use Rattle.tsp_group.specs.Groups.{floor_div}

div_below : (s n a : ℕ) → 0 < n → s < a * n → s / n < a
div_below s n a p h = (div-lt_iff_lt-mul {k = n} {x = s} {y = a} p).1 h

pub le_floor_div : (s a : ℤ) (n : ℕ) → 0 < n → (a *ℤ pos n) ≤ℤ s → a ≤ℤ floor_div s n
le_floor_div (pos s) (pos a) n p h = let k : a ≤ s / n = le-div a s n p (omega (arith, ints)) in omega (arith, ints)
le_floor_div (pos s) (negsuc a) n p h = omega (arith, ints)
le_floor_div (negsuc s) (pos a) n p h = absurd (omega (arith, ints))
le_floor_div (negsuc s) (negsuc a) n p h = let k : s / n < suc a = div_below s n (suc a) p (omega (arith, ints)) in omega (arith, ints)

pub floor_div_le : (s b : ℤ) (n : ℕ) → 0 < n → s ≤ℤ (b *ℤ pos n) → floor_div s n ≤ℤ b
floor_div_le (pos s) (pos b) n p h = let k : s / n < suc b = div_below s n (suc b) p (omega (arith, ints)) in omega (arith, ints)
floor_div_le (pos s) (negsuc b) n p h = absurd (omega (arith, ints))
floor_div_le (negsuc s) (pos b) n p h = omega (arith, ints)
floor_div_le (negsuc s) (negsuc b) n p h = let k : b ≤ s / n = le-div b s n p (omega (arith, ints)) in omega (arith, ints)

-- a mean of near values fits
pub floor_div_fits : (s : ℤ) (n : ℕ) → 0 < n → unsigned_abs s < n * 1073741824000000 → (negsuc 1073741823999999 ≤ℤ floor_div s n) ×
    (floor_div s n ≤ℤ pos 1073741823999999)
floor_div_fits (pos s) n p h = let k : s / n < 1073741824000000 = div_below s n 1073741824000000 p (omega arith) in (omega (arith, ints), omega (arith, ints))
floor_div_fits (negsuc s) n p h = let k : s / n < 1073741824000000 = div_below s n 1073741824000000 p (omega arith) in
    (omega (arith, ints), omega (arith, ints))

-- what the code's division gives
pub div_euclid_is : (r s d : ℤ) (n : ℕ) → FitsSigned w128 s → FitsSigned w128 d → r ≡ int_div_euclid (to_z w128 (of_z w128 s)) (to_z w128 (of_z w128 d)) → d ≡
    pos n → r ≡ floor_div s n
div_euclid_is r (pos s) d n f g e k = rw k at (rw (to_z-of_z w128 d g) at (rw (to_z-of_z w128 (pos s) f) at e))
div_euclid_is r (negsuc s) d n f g e k = rw k at (rw (to_z-of_z w128 d g) at (rw (to_z-of_z w128 (negsuc s) f) at e))
