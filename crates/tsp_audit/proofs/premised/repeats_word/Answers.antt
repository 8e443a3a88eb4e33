-- An event that is a boot repeats a word in whichever order the events stand.
use Rattle.std.proofs.Common.{ap, ◌∙◌, ◌≡◌, Bool, true, false, ◌||◌, List, [], ◌∷◌, refl, reverse, rules}
use Rattle.std.{proofs.lemmas.List.Folds.list_any-append, specs.List.list_any}
use mathlib.Core.List.{reverse-cons}
use Rattle.tsp_audit.specs.Premised.{boots_with}
use Rattle.tsp_audit.proofs.premised.repeats_word.Goals as goal

or_swap : (a b : Bool) → (b || (a || false)) ≡ (a || b)
or_swap true true = refl
or_swap true false = refl
or_swap false true = refl
or_swap false false = refl

-- a test of a list's values finds as much in the reverse
list_any-reverse : {X : Type 0} (p : X → Bool) (xs : List X) → list_any p (reverse xs) ≡ list_any p xs
list_any-reverse p [] = refl
list_any-reverse p (x ∷ xs) = ap (list_any p) (reverse-cons x xs) ∙ (list_any-append p (reverse xs) (x ∷ []) ∙
    (ap (λ b. b || (p x || false)) (list_any-reverse p xs) ∙ or_swap (p x) (list_any p xs)))

pub returns-in-Boot : goal.returns-in-Boot
returns-in-Boot c =
    let swapped = list_any-reverse (boots_with c.in-Boot.word) c.args.events.now in
    let found : c.is_booted_with.result ≡ list_any (boots_with c.in-Boot.word) c.args.events.now = search rules in
    let boot = c.in-Boot.is in
    search (boot, swapped, found)
