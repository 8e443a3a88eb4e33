-- What a reader of the page reckons: the tick of a moment, the clock at a tick, and by how much clocks part.
use Rattle.std.specs.Prelude.{ℕ, ◌+◌, ◌-◌, ◌*◌, ◌/◌, nat_le, if◌then◌else◌, ℤ, pos, ◌+ℤ◌, ◌-ℤ◌, ◌*ℤ◌}
use Rattle.std.specs.Int.{int_div_euclid, int_max}
use Rattle.tsp_base.specs.Words.{eased, width}
use Rattle.tsp_page.specs.declared.daemon_half.DaemonHalf.{DaemonHalf}

-- whole microseconds of the daemon's clock since its origin, at a nanosecond
abbrev pub elapsed : DaemonHalf → ℕ → ℤ
elapsed h now = int_div_euclid (pos now -ℤ h.origin) (pos 1000)

-- by how many microseconds more the daemon counts for so many: the rate's part of them, rounded down
abbrev pub gained : ℤ → ℤ → ℤ
gained rate e = int_div_euclid (e *ℤ rate) (pos 1000000000)

-- the daemon's tick at a nanosecond of its clock
abbrev pub tick_at : DaemonHalf → ℕ → ℤ
tick_at h now = (pos h.origin_tick +ℤ elapsed h now) +ℤ gained h.rate (elapsed h now)

-- what the daemon's clock aims at, at a tick
abbrev pub target_at : DaemonHalf → ℕ → ℤ
target_at h x = h.target +ℤ (pos x -ℤ pos h.tick)

-- what is still to be slewed then: a microsecond less for each 200 ticks since the last correction
abbrev pub rest_at : DaemonHalf → ℕ → ℤ
rest_at h x = eased h.rest ((x - h.tick) / 200)

-- what the clock shows then: its target less what is still to be slewed
abbrev pub clock_shown_at : DaemonHalf → ℕ → ℤ
clock_shown_at h x = target_at h x -ℤ rest_at h x

-- what the page shows then: what the clock shows, and no less than was shown before
abbrev pub shown_at : DaemonHalf → ℕ → ℤ
shown_at h x = int_max h.least (clock_shown_at h x)

-- the error of so many ticks as true time: their width, and past 100 seconds twice that
abbrev pub tick_error : ℕ → ℕ → ℕ
tick_error drift x = if nat_le x 100000000 then width drift x else 2 * width drift x

-- by how much two clocks may have parted since the own counter was so many ticks back
abbrev pub spread : ℕ → ℕ → ℕ
spread drift x = 2 * width drift (x + tick_error drift x)
