-- The clock of this machine, as a question reads it, in microseconds.
use Rattle.std.specs.Prelude.{ℕ, ◌-◌, ℤ, pos, ◌+ℤ◌, List, [], ◌∷◌, zero, suc}

-- the k-th tick, from 0, that a counter gives which still has these readings and has answered this one last; after its
-- last reading it gives that again
abbrev pub tick_given : ℕ → List ℕ → ℕ → ℕ
tick_given last [] k = last
tick_given last (x ∷ xs) zero = x
tick_given last (x ∷ xs) (suc k) = tick_given x xs k

-- the wall clock that was read at the first tick, and the ticks since
abbrev pub own_clock : ℤ → ℕ → ℕ → ℤ
own_clock wall first tick = wall +ℤ pos (tick - first)
