-- Places of a list whose newest entry comes first.
use Rattle.std.specs.Prelude.{◌≡◌, ◌⊎◌, List, [], ◌∷◌}

-- a place of the list t is one of its tails: the entry at the place is the tail's first, and the rest of the tail is what came before it
abbrev pub Within : {A : Type 0} → List A → List A → Type 0
Within s [] = s ≡ []
Within s (l ∷ t) = (s ≡ (l ∷ t)) ⊎ Within s t
