-- The rate of a daemon's counter, and which counter it is.
use Rattle.std.specs.Prelude.{◌≡◌, ℕ, ℤ, pos, negsuc, ◌+ℤ◌, ◌≤ℤ◌, List, codes}
use Rattle.tsp_io.specs.declared.counter.Counter.{Counter, TheVariants.Raw, TheVariants.Monotonic}
use Rattle.tsp_io.specs.declared.rate.Rate.{Rate}

-- a rate may be named by this number: how many parts in 10^9 it is above the machine's
pub record IsRate (parts : ℤ) : Type 0 where
  pub low : negsuc 999999 ≤ℤ parts
  pub high : parts ≤ℤ pos 1000000

-- this is the rate of that number: so many ticks for 10^9 microseconds of the machine's clock
abbrev pub IsRateOf : ℤ → Rate → Type 0
IsRateOf parts rate = pos rate.speed ≡ pos 1000000000 +ℤ parts

-- the text that names a counter
abbrev pub counter_word : Counter → List ℕ
counter_word Raw = codes "raw"
counter_word Monotonic = codes "monotonic"
