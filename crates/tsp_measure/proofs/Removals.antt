-- Lemmas on a list without one of its elements.
use Rattle.std.proofs.Common.{◌≡◌, ◌∙◌, ap, sym, ℕ, suc, ◌<◌, List, ◌∷◌, ◌++◌, take, drop, length, get_or}
use Rattle.std.{proofs.Math.Seq.drop-cons, proofs.lemmas.List.take-append-drop, specs.List.All, specs.List.remove}
use Rattle.std.proofs.lemmas.List.Elements.{All-append, All-take, All-drop}

pub split_at_place : {X : Type 0} (xs : List X) (i : ℕ) (x : X) → i < length xs → x ≡ get_or xs i x → xs ≡ take i xs ++ x ∷ drop (suc i) xs
split_at_place {X} xs i x h e = sym (take-append-drop i xs) ∙ ap (λ (ys : List X). take i xs ++ ys) (drop-cons xs i x h ∙
    ap (λ (y : X). y ∷ drop (suc i) xs) (sym e))

pub All_remove : {X : Type 0} (P : X → Type 0) (xs : List X) (i : ℕ) → All P xs → All P (remove xs i)
All_remove P xs i h = All-append P (take i xs) (drop (suc i) xs) (All-take P i xs h) (All-drop P (suc i) xs h)
