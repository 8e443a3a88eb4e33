-- Marks that are all taken away.
use Rattle.std.proofs.Common.{◌∙◌, ap, sym, arith, append-nil, get_or, ◌≡◌, ℕ, zero, suc, ◌+◌, ◌<◌, ◌≤◌, Bool, false, List, [], ◌∷◌, ◌++◌, length, take, drop}
use Rattle.std.proofs.Common.{set, replicate, refl}
use Rattle.std.proofs.{Math.Seq.take-append_seam, lemmas.List.drop_more, lemmas.List.length-replicate, lemmas.List.set_at}

replicate_front : (n : ℕ) (ys : List Bool) → replicate n false ++ false ∷ ys ≡ false ∷ (replicate n false ++ ys)
replicate_front zero ys = refl
replicate_front (suc n) ys = ap (λ zs. false ∷ zs) (replicate_front n ys)

-- one mark more is taken away
pub unset_more : (xs now : List Bool) (i : ℕ) → i < length xs → now ≡ replicate i false ++ drop i xs → set now i false ≡ replicate (i + 1) false ++
    drop (i + 1) xs
unset_more xs now i h e =
    let is : now ≡ replicate i false ++ get_or xs i false ∷ drop (i + 1) xs = e ∙ ap (λ ys. replicate i false ++ ys) (drop_more xs i false h) in
    let one : i + 1 ≡ suc i = omega arith in
    ap (λ ys. set ys i false) is ∙ set_at (replicate i false) (get_or xs i false) (drop (i + 1) xs) false i (length-replicate i false)
    ∙ replicate_front i (drop (i + 1) xs) ∙ sym (ap (λ n. replicate n false ++ drop (i + 1) xs) one)

drop_past : (xs : List Bool) (n : ℕ) → length xs ≤ n → drop n xs ≡ []
drop_past [] zero h = refl
drop_past [] (suc n) h = refl
drop_past (x ∷ xs) zero h = absurd (omega arith)
drop_past (x ∷ xs) (suc n) h = drop_past xs n (omega arith)

-- all marks are
pub unset_all : (xs now : List Bool) (i : ℕ) → length xs ≤ i → i ≤ length xs → now ≡ replicate i false ++ drop i xs → now ≡ replicate (length xs) false
unset_all xs now i h k e =
    let end : i ≡ length xs = omega arith in
    e ∙ ap (λ ys. replicate i false ++ ys) (drop_past xs i h) ∙ append-nil (replicate i false) ∙ ap (λ n. replicate n false) end

-- a slice is written back whole
pub written : (n : ℕ) (new items : List Bool) → n ≡ length new → take n (new ++ drop (length new) items) ≡ new
written n new items e = ap (λ k. take k (new ++ drop (length new) items)) e ∙ take-append_seam new (drop (length new) items)
