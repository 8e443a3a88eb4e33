-- Lemmas on the best of the groups that were tried.
use Rattle.std.proofs.Common.{◌≡◌, ◌∙◌, refl, Bool, true, false, ℤ, List, [], ◌∷◌, arith, inl, inr, ◌⊎◌}
use Rattle.std.specs.List.{All, Contains, fold}
use Rattle.std.proofs.lemmas.List.Elements.{All-nil, All-cons, Contains-append_right}
use Rattle.tsp_group.specs.{Groups.goes_before, Groups.better, declared.group.Group.Group}
use Rattle.tsp_group.proofs.Precedence.{goes_before_order, goes_before_same, better_left, better_right, better_stays, better_takes}

-- the best of a group and of f of each value
abbrev pub best_of : (ℤ → Group) → Group → List ℤ → Group
best_of f start los = fold (λ best lo. better best (f lo)) start los

start_stays_behind : (f : ℤ → Group) (los : List ℤ) (start r : Group) → r ≡ best_of f start los → goes_before start r ≡ false
start_stays_behind f [] start r e = rw e (goes_before_same start)
start_stays_behind f (x ∷ los) start r e = goes_before_order.chain start (better start (f x)) r (better_left start (f x))
    (start_stays_behind f los (better start (f x)) r e)

-- no group that was tried goes before the best
pub best_of_first : (f : ℤ → Group) (los : List ℤ) (start r : Group) → r ≡ best_of f start los → All (λ lo. goes_before (f lo) r ≡ false) los
best_of_first f [] start r e = All-nil (λ lo. goes_before (f lo) r ≡ false)
best_of_first f (x ∷ los) start r e =
    All-cons (λ lo. goes_before (f lo) r ≡ false) x los
    (goes_before_order.chain (f x) (better start (f x)) r (better_right start (f x)) (start_stays_behind f los (better start (f x)) r e))
    (best_of_first f los (better start (f x)) r e)

better_cases : (a h : Group) (t : Bool) → goes_before h a ≡ t → (better a h ≡ a) ⊎ (better a h ≡ h)
better_cases a h true e = inr (better_takes a h e)
better_cases a h false e = inl (better_stays a h e)

-- the best is the start or was tried
pub best_of_cases : (f : ℤ → Group) (los : List ℤ) (start r : Group) → r ≡ best_of f start los → (r ≡ start) ⊎ ((lo : ℤ) × Contains los lo × (r ≡ f lo))
best_of_cases f [] start r e = inl e
best_of_cases f (x ∷ los) start r e =
    elim (best_of_cases f los (better start (f x)) r e) [
      | inl h ↦ elim (better_cases start (f x) (goes_before (f x) start) refl) [ inl k ↦ inl (h ∙ k) | inr k ↦ inr (x, (0, omega arith, refl), h ∙ k) ]
      | inr w ↦ inr (w.0, Contains-append_right (x ∷ []) los w.0 w.1, w.2)
    ]
