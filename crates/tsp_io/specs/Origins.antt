-- Ticks that are counted at another rate from some tick on.
use Rattle.std.specs.Prelude.{◌≢◌, ◌≤◌, ℕ, ◌-◌, ◌*◌, ◌^◌, nat_le, nat_abs, ◌==◌, ◌&&◌, not, if◌then◌else◌, ℤ, pos, ◌+ℤ◌, Bool, Option, None, Some}
use Rattle.tsp_io.specs.Speeds.{reach, speed_of}
use Rattle.tsp_io.specs.declared.origin.Origin.{Origin}

-- whether ticks can be counted at another rate from this tick on: the rate is another one, neither is more than 1,000,000 parts in
-- 10^9, and the numbers stay far from the ends of 64 bits
abbrev pub can_retune : ℕ → ℤ → Origin → Bool
can_retune tick rate o = nat_le (nat_abs rate) 1000000 && (nat_le (nat_abs o.rate) 1000000 && (not (speed_of rate == speed_of o.rate)
    && (nat_le o.tick tick && (nat_le tick (2 ^ 51) && nat_le (nat_abs o.nanos) (2 ^ 61)))))

-- the same as facts: the rate is another one
pub record IsOther (rate : ℤ) (o : Origin) : Type 0 where
  pub rate_small : nat_abs rate ≤ 1000000
  pub own_small : nat_abs o.rate ≤ 1000000
  pub other : speed_of rate ≢ speed_of o.rate

-- and the numbers stay within
pub record IsNear (tick : ℕ) (o : Origin) : Type 0 where
  pub later : o.tick ≤ tick
  pub tick_small : tick ≤ 2 ^ 51
  pub nanos_small : nat_abs o.nanos ≤ 2 ^ 61

pub record CanRetune (tick : ℕ) (rate : ℤ) (o : Origin) : Type 0 where
  pub other : IsOther rate o
  pub near : IsNear tick o

-- from where they are counted then: from the first whole microsecond at which this tick had passed
abbrev pub retuned_at : ℕ → ℤ → Origin → Origin
retuned_at tick rate o = record {
  counter = o.counter;
  nanos = o.nanos +ℤ pos (1000 * reach (speed_of o.rate) (tick - o.tick));
  tick = tick;
  rate = rate;
}

-- the same, if they can be
abbrev pub retuned : ℕ → ℤ → Origin → Option Origin
retuned tick rate o = if can_retune tick rate o then Some (retuned_at tick rate o) else None

-- from where ticks are counted after a change of the rate was tried
abbrev pub origin_then : Option Origin → Option Origin → Option Origin
origin_then None before = before
origin_then (Some o) before = Some o
