-- What a correction asks of the clock, whether it moves the clock or sets it.
use Rattle.std.specs.Prelude.{ℕ, ℤ, ◌+ℤ◌, Bool}
use Rattle.tsp_rules.specs.Values.{Kind, SetTime, PeerId}
use Rattle.tsp_base.specs.Words.{MessageValue, Row, time_in}
use Rattle.tsp_rules.specs.{ClockRows.adjusts, ClockRows.sets, Guards.is_clock_value, SlaveRows.adjtime_of, SlaveRows.settime_of}
use Rattle.tsp_clock.specs.Clocks.{ClockValue, target_of}
use Rattle.tsp_slave.specs.declared.change.Change.{Change, TheVariants.By, TheVariants.To}

abbrev pub change_by : Kind → ℤ → Change
change_by SetTime time = To time
change_by _ time = By time

-- what a correction asks
abbrev pub change_in : MessageValue → Change
change_in m = change_by m.kind (time_in m.body)

-- whether the clock stays in its range
abbrev pub fits : ClockValue → ℕ → Change → Bool
fits clock x (By amount) = is_clock_value (target_of clock x +ℤ amount)
fits clock x (To value) = is_clock_value value

-- the clock is changed so
unfoldable pub changes_clock : Change → Row
changes_clock (By amount) = adjusts amount
changes_clock (To value) = sets value

-- what is done with a correction of the master
unfoldable pub correction_of : PeerId → ℕ → Change → Row
correction_of p number (By amount) = adjtime_of p number amount
correction_of p number (To value) = settime_of p number value
