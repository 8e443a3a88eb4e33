-- How a node's tick counter runs, and how far it may be from true time.
use Rattle.std.specs.Prelude.{ℕ, ◌+◌, ◌-◌, ◌*◌, ◌/◌, ℤ, pos, negsuc}

-- the tick at a true time (microseconds) of a counter with this rate (parts in a million): the gain is rounded down
abbrev pub tick_at : ℤ → ℕ → ℕ
tick_at (pos r) t = t + t * r / 1000000
tick_at (negsuc r) t = t - (t * (r + 1) + 999999) / 1000000

-- how far, at most, a tick counter's advance over so much true time differs from it, at this drift
abbrev pub width : ℕ → ℕ → ℕ
width drift x = (drift * x + 999999) / 1000000 + 1
