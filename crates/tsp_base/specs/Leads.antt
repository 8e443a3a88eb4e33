-- What rows make of a past, as definitions alone.
use Rattle.std.specs.Prelude.{ℕ}
use Rattle.tsp_base.specs.{History.Past, Rows.Row, Rows.grown}

-- if P holds of a past, Q holds of the past after the row's acts
pub record Leads (P : ℕ → Past → Type 0) (row : Row) (Q : ℕ → Past → Type 0) : Type 0 where
  pub run : (x : ℕ) (past : Past) → P x past → Q x (grown x past (row x past))
