-- A history that grows.
use Rattle.std.specs.Prelude.{ℕ, List}
use Rattle.tsp_history.specs.declared.line.HistoryLine.{HistoryLine}

-- its lines, and for how many more there is room
pub record HistoryValue : Type 0 where
  pub lines : List HistoryLine
  pub room : ℕ
