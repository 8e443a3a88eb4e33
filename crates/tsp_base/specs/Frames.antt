-- What the contracts of calls share that put acts at a tick.
use Rattle.std.specs.Prelude.{◌≡◌, ◌≤◌, ℕ, ◌+◌, ◌^◌, List, length}
use Rattle.tsp_base.specs.declared.act.Placed.{Placed}

-- a tick that a node may get: sums with the protocol's times stay far below 2^64
abbrev pub IsTick : ℕ → Type 0
IsTick x = x ≤ 2 ^ 61

-- a call puts at most n acts, and uses at most that much of the desk's room
pub record PutsAtMost (n : ℕ) (room left : ℕ) (old new : List Placed) : Type 0 where
  pub spare : room ≤ left + n
  pub few : length new ≤ length old + n

-- a call puts exactly n acts, and uses that much of the desk's room
pub record PutsExactly (n : ℕ) (room left : ℕ) (old new : List Placed) : Type 0 where
  pub spare : left + n ≡ room
  pub count : length new ≡ length old + n

-- a call puts at most n acts on this desk, and uses at most that much of its room
abbrev pub UsesAtMost : {D : Type 0} → ℕ → (D → ℕ) → (D → List Placed) → D → D → Type 0
UsesAtMost n spare acts old new = PutsAtMost n (spare old) (spare new) (acts old) (acts new)

-- a call puts exactly n acts on this desk, and uses that much of its room
abbrev pub Uses : {D : Type 0} → ℕ → (D → ℕ) → (D → List Placed) → D → D → Type 0
Uses n spare acts old new = PutsExactly n (spare old) (spare new) (acts old) (acts new)
