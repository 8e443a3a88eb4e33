-- What the last Close of a step had.
use Rattle.std.specs.Prelude.{◌≡◌, true, List, ◌∷◌, is_some}
use Rattle.tsp_rules.specs.Values.{PeerId}
use Rattle.tsp_base.specs.Words.{Did, Here, Seen, best}
use Rattle.tsp_promises.specs.StepFacts.{closed}

-- the last Close of the step, if there is one, had a sample of p
abbrev pub RestsOn : PeerId → List Seen → Type 0
RestsOn p seen = (close : Did) (older : List Seen) → closed seen ≡ Here close ∷ older → is_some (best p older) ≡ true
