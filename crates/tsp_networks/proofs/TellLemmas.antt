-- Nothing is left to be told behind the last line.
use Rattle.std.proofs.Common.{ap, arith, ◌≡◌, ℕ, zero, suc, ◌≤◌, List, [], ◌∷◌, ◌++◌, length, map, take, drop, refl}
use Rattle.tsp_run.specs.{Run.told_from, declared.line.Line.Line}
use Rattle.tsp_networks.specs.Sheets.{placed_in}

-- at the end all are told
pub told_all : (event node x next i : ℕ) (lines : List Line) → length lines ≤ i → take i lines ++ told_from event node x next (map placed_in (drop i lines)) ≡
    lines
told_all event node x next i [] h = ends i where
  ends : (i : ℕ) → take i [] ++ told_from event node x next (map placed_in (drop i [])) ≡ []
  ends zero = refl
  ends (suc i) = refl
told_all event node x next zero (l ∷ rest) h = absurd (omega arith)
told_all event node x next (suc i) (l ∷ rest) h = ap (λ ls. l ∷ ls) (told_all event node x next i rest (omega arith))
