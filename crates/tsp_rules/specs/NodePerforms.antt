-- The contract of a call that puts acts of all ports of a node and changes its state (`Performs` of tsp_base says it of one port).
use Rattle.std.specs.Prelude.{◌≡◌, ℕ, List, ◌++◌}
use Rattle.tsp_rules.specs.{NodeRows.NodePast, NodeRows.NodeRow, NodeRows.spread, Values.Placed}

-- for every past of the node that the state before the call stood for, the row's acts were put, and the state after it stands for the past with these acts
pub record PerformsAll {S T : Type 0} (fits : NodePast → S → Type 0) (then_fits : NodePast → T → Type 0) (row : NodeRow) (x : ℕ) (before : S) (after : T)
    (old new : List Placed) : Type 0 where
  pub acts : (past : NodePast) → fits past before → new ≡ old ++ row x past
  pub stands : (past : NodePast) → fits past before → then_fits (spread x past (row x past)) after
