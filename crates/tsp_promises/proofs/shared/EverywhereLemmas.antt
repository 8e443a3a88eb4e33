-- How a property of every place is used and proved.
use Rattle.std.proofs.Common.{sym, subst, subst₂, inl, inr, ◌≡◌, List, [], ◌∷◌, refl}
use Rattle.tsp_promises.specs.Everywhere.{Everywhere}
use Rattle.tsp_base.{proofs.PlaceLemmas.Within_none, specs.Words.Within}

-- at a place
pub Everywhere_at : {A : Type 0} (P : A → List A → Type 0) (l : A) (s h : List A) → Everywhere P h → Within (l ∷ s) h → P l s
Everywhere_at P l s [] e w = Within_none l s w
Everywhere_at P l s (x ∷ t) e (inl i) =
    let line : x ≡ l = cc in
    let rest : t ≡ s = cc in
    subst₂ P line rest e.0
Everywhere_at P l s (x ∷ t) e (inr w) = Everywhere_at P l s t e.1 w

-- from a proof for each place
pub Everywhere_from : {A : Type 0} (P : A → List A → Type 0) (h : List A) → ((l : A) (s : List A) → Within (l ∷ s) h → P l s) → Everywhere P h
Everywhere_from P [] f = tt
Everywhere_from P (l ∷ t) f = (f l t (inl refl), Everywhere_from P t (λ m s w. f m s (inr w)))

-- up to a place
pub Everywhere_within : {A : Type 0} (P : A → List A → Type 0) (s h : List A) → Everywhere P h → Within s h → Everywhere P s
Everywhere_within P s [] e w = subst (λ k. Everywhere P k) (sym w) tt
Everywhere_within P s (x ∷ t) e (inl i) = subst (λ k. Everywhere P k) (sym i) e
Everywhere_within P s (x ∷ t) e (inr w) = Everywhere_within P s t e.1 w
