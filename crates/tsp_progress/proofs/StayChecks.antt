-- That a port's role doesn't change between two places, as a computation.
use Rattle.std.proofs.Common.{sym, ap, arith, true≢false, inl, inr, ◌∙◌, ◌≡◌, ◌≤◌, ℕ, ◌+◌, ◌-◌, zero, suc, not, ◌&&◌, Bool, true, false, List, [], ◌∷◌, length}
use Rattle.std.proofs.lemmas.Bool.{and_parts, not-true}
use Rattle.tsp_base.specs.Words.{Did, Elsewhere, Here, Seen}
use Rattle.tsp_base.proofs.PlaceLemmas.{Within_length}
use Rattle.tsp_progress.specs.FoundInTime.{Changed, is_change}

-- none of so many of the newest deeds changes the role
abbrev stays_for : ℕ → List Seen → Bool
stays_for zero seen = true
stays_for (suc n) [] = true
stays_for (suc n) (Here d ∷ before) = not (is_change d.deed) && stays_for n before
stays_for (suc n) (Elsewhere d ∷ before) = stays_for n before

older : (early : List Seen) (d : Did) (before : List Seen) → is_change d.deed ≡ false → Changed early (Here d ∷ before) → Changed early before
older early d before no_change c = elim c.place [
  | inl e ↦ absurd (let same : c.change ≡ d = cc in true≢false (sym c.is ∙ (ap (λ (k : Did). is_change k.deed) same ∙ no_change)))
  | inr w ↦ record { change = c.change; before = c.before; place = w; since = c.since; is = c.is }
]

aside : (early : List Seen) (d : Did) (before : List Seen) → Changed early (Elsewhere d ∷ before) → Changed early before
aside early d before c = elim c.place [
  | inl e ↦ absurd (let bad : ⊥ = cc in bad)
  | inr w ↦ record { change = c.change; before = c.before; place = w; since = c.since; is = c.is }
]

stayed : (n : ℕ) (early seen : List Seen) → stays_for n seen ≡ true → length seen ≤ n + length early → ¬ Changed early seen
stayed zero early seen e few c =
    let most = Within_length (Here c.change ∷ c.before) seen c.place in
    let least = Within_length early c.before c.since in
    omega (arith, few, most, least)
stayed (suc n) early [] e few c = let bad : ⊥ = cc in bad
stayed (suc n) early (Here d ∷ before) e few c =
    let both = and_parts (not (is_change d.deed)) (stays_for n before) e in
    stayed n early before both.1 (omega (arith, few)) (older early d before (not-true (is_change d.deed) both.0) c)
stayed (suc n) early (Elsewhere d ∷ before) e few c = stayed n early before e (omega (arith, few)) (aside early d before c)

-- none of the deeds since then does
pub stays_by : (early seen : List Seen) → stays_for (length seen - length early) seen ≡ true → ¬ Changed early seen
stays_by early seen e = stayed (length seen - length early) early seen e (omega arith)
