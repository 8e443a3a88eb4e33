-- What a line does to a place that is sought.
use Rattle.std.specs.Prelude.{◌≡◌, ℕ, Bool, if◌then◌else◌, List, [], ◌∷◌, Option, None, Some}
use Rattle.tsp_base.specs.{Words.Did, Words.Seen, Words.Here, declared.place.Port.Port}
use Rattle.tsp_history.specs.declared.change.Change.{Change, TheVariants.Keeps, TheVariants.Ends, TheVariants.Begins}
use Rattle.tsp_history.specs.declared.line.HistoryLine.{HistoryLine}

-- the place after a deed that changes it so, where `keep` was the place before; it begins one only where the flag
-- `lets` allows it
abbrev pub place_by : Change → Bool → Did → List Seen → List Seen → List Seen
place_by Keeps lets here past was = was
place_by Ends lets here past was = []
place_by Begins lets here past was = if lets then Here here ∷ past else was

-- a line is one of this port
pub record BeginsOn (noted : HistoryLine) (n : ℕ) (q : Port) : Type 0 where
  pub node : noted.node ≡ n
  pub port : noted.port.0 ≡ q.0

-- what a line decides; where it doesn't, what was so before
abbrev pub told_or : {A : Type 0} → Option A → A → A
told_or None was = was
told_or (Some v) was = v
