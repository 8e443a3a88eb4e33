-- How far a counter comes at its rate.
use Rattle.std.specs.Prelude.{ℕ, ◌+◌, ◌-◌, ◌*◌, ◌/◌, nat_abs, ℤ, pos, ◌+ℤ◌}

-- a rate of so many parts in 10^9, in ticks for 10^9 microseconds of the machine's clock
abbrev pub speed_of : ℤ → ℕ
speed_of rate = nat_abs (pos 1000000000 +ℤ rate)

-- after how many whole microseconds so many ticks have passed at this speed
abbrev pub reach : ℕ → ℕ → ℕ
reach speed ticks = (ticks * 1000000000 + (speed - 1)) / speed
