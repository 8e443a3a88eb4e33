-- The contract of a call that puts acts on the desk and changes a port's state. A state stands for a past where it says of it all that the rules read.
use Rattle.std.specs.Prelude.{◌≡◌, ℕ, List, ◌++◌}
use Rattle.tsp_base.specs.{History.Past, Rows.Row, Rows.grown, Rows.placed, declared.act.Placed.Placed, declared.place.Port.Port}

-- for every past that the state before the call stood for, the row's acts were put, and the state after it stands for the past with these acts
pub record Performs {S T : Type 0} (fits : Past → S → Type 0) (then_fits : Past → T → Type 0) (row : Row) (x : ℕ) (port : Port) (before : S) (after : T)
    (old new : List Placed) : Type 0 where
  pub acts : (past : Past) → fits past before → new ≡ old ++ placed port (row x past)
  pub stands : (past : Past) → fits past before → then_fits (grown x past (row x past)) after

-- the state still stands for the past after the row's acts: they change nothing of it
abbrev pub Keeps : {T : Type 0} → (Past → T → Type 0) → Row → Type 0
Keeps {T} also row = (x : ℕ) (past : Past) (state : T) → also past state → also (grown x past (row x past)) state
