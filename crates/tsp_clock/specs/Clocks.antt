-- A corrected clock.
use Rattle.std.specs.Prelude.{ℕ, ◌+◌, ◌-◌, ◌/◌, ◌%◌, ◌^◌, ◌≤◌, ◌<◌, ℤ, pos, negsuc, ◌+ℤ◌, ◌-ℤ◌, ◌<ℤ◌, ◌≤ℤ◌, if◌then◌else◌}
use Rattle.tsp_base.specs.Words.{eased}
use Rattle.tsp_rules.specs.{ClockRows.is_step, Values.SLEW}

-- how far the target is ahead of the ticks, what was still to be slewed right after the last correction,
-- its tick (that of the boot where there was none), and the number that the next correction must have
pub record ClockValue : Type 0 where
  pub offset : ℤ
  pub rest : ℤ
  pub at : ℕ
  pub ticket : ℕ

-- the target at a tick
abbrev pub target_of : ClockValue → ℕ → ℤ
target_of v x = v.offset +ℤ pos x

-- what is still to be slewed at a tick: a microsecond less for each 200 ticks since the last correction
abbrev pub slew_rest : ClockValue → ℕ → ℤ
slew_rest v x = eased v.rest ((x - v.at) / SLEW)

-- the value shown at a tick: the target less what is still to be slewed
abbrev pub shown_of : ClockValue → ℕ → ℤ
shown_of v x = target_of v x -ℤ slew_rest v x

-- the clock after a correction by an amount: a large one steps, any other is slewed
abbrev pub adjusted : ClockValue → ℕ → ℤ → ClockValue
adjusted v x amount = record {
  offset = v.offset +ℤ amount;
  rest = if is_step amount then pos 0 else slew_rest v x +ℤ amount;
  at = x;
  ticket = (v.ticket + 1) % 32768;
}

-- the clock after it was set to a value, which is a step
abbrev pub set_to : ClockValue → ℕ → ℤ → ClockValue
set_to v x value = record { offset = value -ℤ pos x; rest = pos 0; at = x; ticket = (v.ticket + 1) % 32768 }

-- ticks and tickets are in range, and so was the target at the last correction; the value shown then was above the least value
-- of a clock, and at most its greatest value and the ticks
pub record IsClock (v : ClockValue) : Type 0 where
  pub early : v.at ≤ 2 ^ 61
  pub small : v.ticket < 32768
  pub low : negsuc 2147483647999999 <ℤ (v.offset +ℤ pos v.at)
  pub high : (v.offset +ℤ pos v.at) <ℤ pos 2147483648000000
  pub shown_low : negsuc 2147483647999999 <ℤ ((v.offset +ℤ pos v.at) -ℤ v.rest)
  pub shown_high : ((v.offset +ℤ pos v.at) -ℤ v.rest) ≤ℤ pos (2147483648000000 + v.at)
