-- What tick counters and wall clocks answer.
use Rattle.std.specs.Prelude.{◌≡◌, ℕ, ◌≤◌, ◌+◌, ◌*◌, ◌/◌, ◌^◌, min, max, Bool, true, ◌&&◌, nat_le, List, [], ◌∷◌, None, Some, Option, ℤ, pos, negsuc, ◌≤ℤ◌}
use Rattle.std.specs.Prelude.{◌+ℤ◌}
use Rattle.std.specs.Option.{option_map}
use Rattle.tsp_io.specs.declared.counter.Counter.{Counter, TheVariants.Raw, TheVariants.Monotonic}
use Rattle.tsp_io.specs.declared.origin.Origin.{Origin}

-- the answer is the next of the readings, or the last one again once they are used up. If the readings weren't told,
-- they aren't told afterwards either
abbrev pub TakesReading : Option (List ℕ) → Option (List ℕ) → ℕ → ℕ → Type 0
TakesReading None rest last tick = rest ≡ None
TakesReading (Some []) rest last tick = (rest ≡ Some []) × (tick ≡ last)
TakesReading (Some (x ∷ xs)) rest last tick = (rest ≡ Some xs) × (tick ≡ x)

-- whether these readings never fall, begin at this one or later, and are at most 2^61 microseconds
abbrev pub climbs : ℕ → List ℕ → Bool
climbs last [] = true
climbs last (x ∷ xs) = nat_le last x && (nat_le x (2 ^ 61) && climbs x xs)

-- a wall clock's time: from -2^62 to 2^62 microseconds since 1970
pub record IsWall (x : ℤ) : Type 0 where
  pub low : negsuc 4611686018427387903 ≤ℤ x
  pub high : x ≤ℤ pos 4611686018427387904

-- a counter's rate, in ticks for 10^9 microseconds of the machine's clock: at most 1,000,000 more or fewer
pub record IsSpeed (speed : ℕ) : Type 0 where
  pub slow : 999000000 ≤ speed
  pub fast : speed ≤ 1001000000

-- how far such a counter comes while the machine's clock comes so many microseconds: rounded down, and at most 2^61
abbrev pub counted : ℕ → ℕ → ℕ
counted speed elapsed = min (elapsed * speed / 1000000000) (2 ^ 61)

-- what the counter answers: the tick from which it counts, and how far it has come since, at most 2^61 together, and not less than its
-- last answer. If the machine gave no reading, it answers that again
abbrev pub comes_to : ℕ → ℕ → ℕ → Option ℕ → ℕ
comes_to base speed last None = last
comes_to base speed last (Some elapsed) = max (min (base + counted speed elapsed) (2 ^ 61)) last

-- the number that Linux gives a counter: 4 for the one whose rate no program changes, and 1 for the other
abbrev pub number_of : Counter → ℕ
number_of Raw = 4
number_of Monotonic = 1

-- ticks are counted from here: from this tick at this microsecond of this counter, at this rate
pub record IsOrigin (counter : Counter) (start : Option ℕ) (base speed : ℕ) (origin : Origin) : Type 0 where
  pub counter_is : origin.counter ≡ number_of counter
  pub nanos_are : option_map (λ first. pos (first * 1000)) start ≡ Some origin.nanos
  pub tick_is : origin.tick ≡ base
  pub rate_is : pos 1000000000 +ℤ origin.rate ≡ pos speed
