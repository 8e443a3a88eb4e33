-- Deeds that move a clock, and those that don't.
use Rattle.std.specs.Prelude.{◌≡◌, ℕ, ℤ, Bool}
use Rattle.tsp_rules.specs.Values.{Correct}
use Rattle.tsp_base.specs.Words.{Acts, Deed, all_corrects_after, lives_after}

-- a deed corrects its node's clock
pub record IsCorrect (deed : Deed) : Type 0 where
  pub amount : ℤ
  pub stepped : Bool
  pub shown : ℤ
  pub is : deed ≡ Acts (Correct amount stepped shown)

-- a deed neither boots its node nor corrects its clock
pub record LeavesState (deed : Deed) : Type 0 where
  pub lives : (n : ℕ) → lives_after deed n ≡ n
  pub corrects : (n : ℕ) → all_corrects_after deed n ≡ n
