-- The clock of a node at a place of the history, and what it shows there.
use Rattle.std.specs.Prelude.{ℕ, ◌-◌, ◌*◌, ℤ, pos, ◌+ℤ◌, ◌-ℤ◌, ◌≤ℤ◌, nat_abs, List}
use Rattle.tsp_base.specs.Words.{Line, of, dids, lives, moved, rest_at, shown, time_of, width}
use Rattle.tsp_promises.specs.Setting.{Setting}

-- the clock of node n at a true time, in microseconds, when the history is h: its wall clock at tick 0 in this life, its tick then, and
-- the sum of the amounts of its Corrects since its last boot
abbrev pub clock_at : Setting → ℕ → List Line → ℕ → ℤ
clock_at setting n h at = (setting.wall n (lives (dids (of n h))) +ℤ moved (dids (of n h))) +ℤ pos (setting.tick n at)

-- the clock of node n at the place that ends the history h
abbrev pub clock : Setting → ℕ → List Line → ℤ
clock setting n h = clock_at setting n h (time_of (dids h))

-- the clocks of k and l differ by at most b then
abbrev pub ClocksWithin : Setting → List Line → ℕ → ℕ → ℕ → ℤ → Type 0
ClocksWithin setting h t k l b = pos (nat_abs (clock_at setting k h t -ℤ clock_at setting l h t)) ≤ℤ b

-- how far two clocks may have drifted apart from the line r to the true time t
abbrev pub drifted : Setting → ℕ → Line → ℕ
drifted setting t r = 2 * width setting.drift (t - r.did.step.at)

-- the value that node n shows at a true time, when the history is h
abbrev pub shown_at : Setting → ℕ → List Line → ℕ → ℤ
shown_at setting n h at = shown (dids (of n h)) (setting.tick n at)

-- what is still to be slewed of its corrections then
abbrev pub left_at : Setting → ℕ → List Line → ℕ → ℤ
left_at setting n h at = rest_at (dids (of n h)) (setting.tick n at)
