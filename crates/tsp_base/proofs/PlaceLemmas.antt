-- Order of places.
use Rattle.std.proofs.Common.{sym, arith, subst, ◌⊎◌, inl, inr, ◌≤◌, List, [], ◌∷◌, length, refl}
use Rattle.tsp_base.specs.Words.{Within}

-- the whole list is a place of itself
pub Within_all : {A : Type 0} (h : List A) → Within h h
Within_all [] = refl
Within_all (l ∷ t) = inl refl

-- a place of a place is a place
pub Within_through : {A : Type 0} (r s t : List A) → Within r s → Within s t → Within r t
Within_through r s [] p e = subst (λ w. Within r w) e p
Within_through r s (l ∷ t) p (inl e) = subst (λ w. Within r w) e p
Within_through r s (l ∷ t) p (inr q) = inr (Within_through r s t p q)

-- what stands before a place is a place
pub Within_tail : {A : Type 0} (l : A) (s t : List A) → Within (l ∷ s) t → Within s t
Within_tail l s t p = Within_through s (l ∷ s) t (inr (Within_all s)) p

-- nothing stands in the empty list
pub Within_none : {A B : Type 0} (l : A) (s : List A) → Within (l ∷ s) [] → B
Within_none l s w = let bad : ⊥ = cc in absurd bad

-- an earlier place has fewer entries before it
pub Within_length : {A : Type 0} (s t : List A) → Within s t → length s ≤ length t
Within_length s [] e = subst (λ w. length w ≤ 0) (sym e) (omega arith)
Within_length s (l ∷ t) (inl e) = subst (λ w. length w ≤ length (l ∷ t)) (sym e) (omega arith)
Within_length s (l ∷ t) (inr p) = omega (arith, Within_length s t p)

-- no place stands before itself
pub Within_strict : {A : Type 0} (l : A) (s t : List A) → Within (l ∷ s) t → Within t s → ⊥
Within_strict l s t v w = omega (arith, Within_length (l ∷ s) t v, Within_length t s w)

-- of two places one stands before the other, or they are one
pub Within_comparable : {A : Type 0} (s t h : List A) → Within s h → Within t h → Within s t ⊎ Within t s
Within_comparable s t [] v w = inl (subst (λ k. Within s k) (sym w) v)
Within_comparable s t (l ∷ h) (inl v) w = inr (subst (λ k. Within t k) (sym v) w)
Within_comparable s t (l ∷ h) (inr v) (inl w) = inl (subst (λ k. Within s k) (sym w) (inr v))
Within_comparable s t (l ∷ h) (inr v) (inr w) = Within_comparable s t h v w
