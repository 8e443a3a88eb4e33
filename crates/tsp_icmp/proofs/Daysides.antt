-- What an exchange says is right where the clocks are at most half a day apart.
use Rattle.std.proofs.Common.{◌≡◌, ℕ, ◌<◌, ◌/◌, refl, sym, ap, ◌∙◌, arith, ℤ, pos, negsuc, ◌+ℤ◌, ◌-ℤ◌, ◌*ℤ◌, ◌≤ℤ◌, ◌<ℤ◌, Bool, true, false, Some, None, int_le}
use Rattle.std.proofs.Common.{if◌then◌else◌, IsSomeAnd}
use Rattle.std.{proofs.lemmas.Int.ints, specs.Int.int_div_euclid}
use Rattle.tsp_icmp.specs.Days.{in_day, trip_of, shift_of, lesser_half, greater_half, difference_of, milli_of, IsAtMost, Dayside}

-- a number is whole days and what lies in the last
abbrev days : ℤ → ℤ
days z = int_div_euclid z (pos 86400000)

days_in_day : (z : ℤ) → z ≡ (pos 86400000 *ℤ days z) +ℤ in_day z
days_in_day (pos a) = omega (arith, ints)
days_in_day (negsuc a) = omega (arith, ints)

in_day_low : (z : ℤ) → pos 0 ≤ℤ in_day z
in_day_low (pos a) = omega (arith, ints)
in_day_low (negsuc a) = omega (arith, ints)

in_day_high : (z : ℤ) → in_day z <ℤ pos 86400000
in_day_high (pos a) = omega (arith, ints)
in_day_high (negsuc a) = omega (arith, ints)

-- what differs from a number within a day by whole days has it as its rest
in_day_is : (z w q : ℤ) → z ≡ (pos 86400000 *ℤ q) +ℤ w → pos 0 ≤ℤ w → w <ℤ pos 86400000 → in_day z ≡ w
in_day_is z w q e low high = omega (arith, ints, days_in_day z, in_day_low z, in_day_high z)

-- the rest of a difference of rests, moved by k, is the difference moved by k, where that lies within a day
in_day_apart : (x y : ℤ) (o d k : ℕ) → in_day x ≡ pos o → in_day y ≡ pos d → pos 0 ≤ℤ ((y -ℤ x) +ℤ pos k) → ((y -ℤ x) +ℤ pos k) <ℤ pos 86400000
    → in_day ((pos d -ℤ pos o) +ℤ pos k) ≡ (y -ℤ x) +ℤ pos k
in_day_apart x y o d k e f low high = in_day_is ((pos d -ℤ pos o) +ℤ pos k) ((y -ℤ x) +ℤ pos k) (days x -ℤ days y) (omega (
  arith,
  ints,
  days_in_day x,
  days_in_day y,
)) low high

trip_of_is : (x y : ℤ) (o d : ℕ) → in_day x ≡ pos o → in_day y ≡ pos d → pos 0 ≤ℤ (y -ℤ x) → (y -ℤ x) <ℤ pos 43200000 → trip_of o d ≡ y -ℤ x
trip_of_is x y o d e f low high = in_day_is (pos d -ℤ pos o) (y -ℤ x) (days x -ℤ days y) (omega (arith, ints, days_in_day x, days_in_day y)) low
    (omega (arith, ints))

shift_of_is : (x y : ℤ) (o r : ℕ) → in_day x ≡ pos o → in_day y ≡ pos r → negsuc 43199999 ≤ℤ (y -ℤ x) → (y -ℤ x) <ℤ pos 43200000 → shift_of o r ≡ y -ℤ x
shift_of_is x y o r e f low high = omega (arith, ints, in_day_apart x y o r 43200000 e f (omega (arith, ints)) (omega (arith, ints)))

-- a shift lies within half a day
pub shift_of_low : (o r : ℕ) → negsuc 43199999 ≤ℤ shift_of o r
shift_of_low o r = omega (arith, ints, in_day_low ((pos r -ℤ pos o) +ℤ pos 43200000))

pub shift_of_high : (o r : ℕ) → shift_of o r <ℤ pos 43200000
shift_of_high o r = omega (arith, ints, in_day_high ((pos r -ℤ pos o) +ℤ pos 43200000))

milli_of_low : (z : ℤ) → (pos 1000 *ℤ milli_of z) ≤ℤ z
milli_of_low (pos a) = omega (arith, ints)
milli_of_low (negsuc a) = omega (arith, ints)

milli_of_high : (z : ℤ) → z ≤ℤ ((pos 1000 *ℤ milli_of z) +ℤ pos 999)
milli_of_high (pos a) = omega (arith, ints)
milli_of_high (negsuc a) = omega (arith, ints)

milli_of_mono : (y z : ℤ) → y ≤ℤ z → milli_of y ≤ℤ milli_of z
milli_of_mono y z h = omega (arith, ints, milli_of_low y, milli_of_high y, milli_of_low z, milli_of_high z)

lesser_half_low : (z : ℤ) → (pos 2 *ℤ lesser_half z) ≤ℤ z
lesser_half_low (pos a) = omega (arith, ints)
lesser_half_low (negsuc a) = omega (arith, ints)

lesser_half_high : (z : ℤ) → z ≤ℤ ((pos 2 *ℤ lesser_half z) +ℤ pos 1)
lesser_half_high (pos a) = omega (arith, ints)
lesser_half_high (negsuc a) = omega (arith, ints)

-- both halves make the whole
halves : (z : ℤ) → lesser_half z +ℤ greater_half z ≡ z
halves z = omega (arith, ints, lesser_half_low z, lesser_half_high z, lesser_half_low (z +ℤ pos 1), lesser_half_high (z +ℤ pos 1))

lesser_half_greater_half : (z : ℤ) → lesser_half z ≤ℤ greater_half z
lesser_half_greater_half z = omega (arith, ints, lesser_half_low z, lesser_half_high z, lesser_half_low (z +ℤ pos 1), lesser_half_high (z +ℤ pos 1))

-- the bound, on plain numbers
bound : (A L D R a d r hd hu : ℤ) → A ≤ℤ L → L ≤ℤ D
    → (pos 1000 *ℤ a) ≤ℤ A → A ≤ℤ ((pos 1000 *ℤ a) +ℤ pos 999)
    → (pos 1000 *ℤ r) ≤ℤ R → R ≤ℤ ((pos 1000 *ℤ r) +ℤ pos 999)
    → (pos 1000 *ℤ d) ≤ℤ D → D ≤ℤ ((pos 1000 *ℤ d) +ℤ pos 999)
    → hd +ℤ hu ≡ d -ℤ a → hd ≤ℤ hu
    → IsAtMost (pos 1000 *ℤ (hu +ℤ pos 1)) ((pos 1000 *ℤ ((r -ℤ a) -ℤ hd)) -ℤ (R -ℤ L))
bound A L D R a d r hd hu al ld a1 a2 r1 r2 d1 d2 h k = (omega (arith, ints), omega (arith, ints))

given : (b : Bool) (x : ℤ × ℤ) (P : (ℤ × ℤ) → Type 0) → b ≡ false → P x → IsSomeAnd (if b then None else Some x) P
given true x P e p = cc
given false x P e p = p

int_le_false : (x y : ℤ) → y <ℤ x → int_le x y ≡ false
int_le_false x y h = grind (arith, ints)

pub Dayside_difference_of : (o r d : ℕ) → Dayside o r d (difference_of o r d)
Dayside_difference_of o r d A L D R al ld a b c trip low high =
    let t : trip_of o d ≡ milli_of D -ℤ milli_of A = trip_of_is (milli_of A) (milli_of D) o d a c (omega (
      arith,
      ints,
      milli_of_mono A L al,
      milli_of_mono L D ld,
    )) trip in
    let s : shift_of o r ≡ milli_of R -ℤ milli_of A = shift_of_is (milli_of A) (milli_of R) o r a b low high in
    given (int_le (pos 43200000) (trip_of o d)) (shift_of o r -ℤ lesser_half (trip_of o d), greater_half (trip_of o d) +ℤ pos 1)
    (λ x. IsAtMost (pos 1000 *ℤ x.1) ((pos 1000 *ℤ x.0) -ℤ (R -ℤ L)))
    (rw t (int_le_false _ _ trip))
    (rw s (bound A L D R (milli_of A) (milli_of D) (milli_of R) (lesser_half (trip_of o d)) (greater_half (trip_of o d)) al ld (milli_of_low A)
    (milli_of_high A) (milli_of_low R) (milli_of_high R) (milli_of_low D) (milli_of_high D) (halves (trip_of o d) ∙
    t) (lesser_half_greater_half (trip_of o d))))

found_case : (b : Bool) (x y : ℤ × ℤ) → b ≡ false → x ≡ y → Some x ≡ (if b then None else Some y)
found_case true x y e p = cc
found_case false x y e p = ap Some p

-- where the trip takes less than half a day, these numbers are what is given
pub found : (x y : ℤ) (trip o r d : ℕ) → pos trip ≡ trip_of o d → trip < 43200000
    → x ≡ shift_of o r -ℤ pos (trip / 2) → y ≡ (pos trip -ℤ pos (trip / 2)) +ℤ pos 1 → Some (x, y) ≡ difference_of o r d
found x y trip o r d t small ex ey =
    let down : lesser_half (trip_of o d) ≡ pos (trip / 2) = rw (sym t) refl in
    let up : greater_half (trip_of o d) ≡ pos trip -ℤ pos (trip / 2) = omega (arith, ints, halves (trip_of o d), down, t) in
    found_case (int_le (pos 43200000) (trip_of o d)) (x, y) (shift_of o r -ℤ lesser_half (trip_of o d), greater_half (trip_of o d) +ℤ pos 1)
    (int_le_false (pos 43200000) (trip_of o d) (omega (arith, ints, t)))
    (rw (ex, ey, down, up) refl)
