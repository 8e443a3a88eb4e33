-- Properties of every place of a list whose newest entry comes first.
use Rattle.std.specs.Prelude.{ℕ, ◌≤◌, List, [], ◌∷◌}
use Rattle.tsp_base.specs.Words.{Line}

-- P holds of every entry of the list and the entries before it
abbrev pub Everywhere : {A : Type 0} → (A → List A → Type 0) → List A → Type 0
Everywhere P [] = Unit {0}
Everywhere P (l ∷ before) = P l before × Everywhere P before

-- P holds at every place of a history, and after it at any later true time, as long as nothing more happens
abbrev pub Lasting : (List Line → ℕ → Type 0) → List Line → Type 0
Lasting P = Everywhere (λ l before. (t : ℕ) → l.did.step.at ≤ t → P (l ∷ before) t)
