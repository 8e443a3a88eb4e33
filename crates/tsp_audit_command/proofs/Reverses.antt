-- Lists that are read back.
use Rattle.std.proofs.Common.{◌∙◌, ap, sym, ◌≡◌, List, [], ◌∷◌, ◌++◌, reverse}
use Rattle.std.proofs.lemmas.List.{reverse-append}

-- one more at the end, read back
pub reverse_more : {A : Type 0} (xs : List A) (x : A) → reverse (xs ++ x ∷ []) ≡ x ∷ reverse xs
reverse_more xs x = reverse-append xs (x ∷ [])

-- one more at the beginning, read back
pub reversed_more : {A : Type 0} (xs back : List A) (x : A) → back ≡ reverse xs → back ++ x ∷ [] ≡ reverse (x ∷ xs)
reversed_more xs back x is = ap (λ ys. ys ++ x ∷ []) is ∙ sym (reverse-append (x ∷ []) xs)
