-- Times of day in milliseconds, and how far another clock is ahead by an exchange.
use Rattle.std.specs.Prelude.{◌≡◌, ℕ, ℤ, pos, negsuc, ◌+ℤ◌, ◌-ℤ◌, ◌*ℤ◌, ◌≤ℤ◌, ◌<ℤ◌, int_le, if◌then◌else◌, Option, Some, None, IsSomeAnd}
use Rattle.std.specs.Int.{int_div_euclid, int_rem_euclid}

-- milliseconds modulo a day, from 0 to 86,399,999
abbrev pub in_day : ℤ → ℤ
in_day z = int_rem_euclid z (pos 86400000)

-- the round trip of a request sent at o whose reply came at d, by one clock
abbrev pub trip_of : ℕ → ℕ → ℤ
trip_of o d = in_day (pos d -ℤ pos o)

-- how far r is ahead of o: the number from minus half a day to less than half a day that is r - o modulo a day
abbrev pub shift_of : ℕ → ℕ → ℤ
shift_of o r = in_day ((pos r -ℤ pos o) +ℤ pos 43200000) -ℤ pos 43200000

-- half of a round trip, rounded down
abbrev pub lesser_half : ℤ → ℤ
lesser_half trip = int_div_euclid trip (pos 2)

-- half of a round trip, rounded up
abbrev pub greater_half : ℤ → ℤ
greater_half trip = int_div_euclid (trip +ℤ pos 1) (pos 2)

-- how far a clock that read r is ahead of one that read o at the request and d at the reply, and by how much that may be wrong; None where the trip takes half
-- a day or more
abbrev pub difference_of : ℕ → ℕ → ℕ → Option (ℤ × ℤ)
difference_of o r d =
    if int_le (pos 43200000) (trip_of o d) then None
    else Some (shift_of o r -ℤ lesser_half (trip_of o d), greater_half (trip_of o d) +ℤ pos 1)

-- the millisecond in which a microsecond lies
abbrev pub milli_of : ℤ → ℤ
milli_of micros = int_div_euclid micros (pos 1000)

-- z is from -n to n
abbrev pub IsAtMost : ℤ → ℤ → Type 0
IsAtMost n z = ((pos 0 -ℤ n) ≤ℤ z) × (z ≤ℤ n)

-- the difference is given, and is wrong by at most the error given with it, where: a clock reads A microseconds at the request, L when the other one reads R,
-- and D at the reply; o, r and d are the milliseconds of A, R and D modulo a day; the trip takes less than half a day; and R is at most half a day from A
abbrev pub Dayside : ℕ → ℕ → ℕ → Option (ℤ × ℤ) → Type 0
Dayside o r d found = (A L D R : ℤ) → A ≤ℤ L → L ≤ℤ D
    → in_day (milli_of A) ≡ pos o → in_day (milli_of R) ≡ pos r → in_day (milli_of D) ≡ pos d
    → (milli_of D -ℤ milli_of A) <ℤ pos 43200000
    → negsuc 43199999 ≤ℤ (milli_of R -ℤ milli_of A) → (milli_of R -ℤ milli_of A) <ℤ pos 43200000
    → IsSomeAnd found (λ x. IsAtMost (pos 1000 *ℤ x.1) ((pos 1000 *ℤ x.0) -ℤ (R -ℤ L)))
