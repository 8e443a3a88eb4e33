-- Laws of the lines of networks.
use Rattle.std.proofs.Common.{◌≡◌, ℕ, ◌<◌, ◌^◌, List, [], ◌∷◌, ◌++◌, length, refl, sym, ap, ◌∙◌, arith, subst, append_assoc, length-append, Some, None, codes}
use Rattle.std.proofs.Common.{decimal, Option, IfSome}
use Rattle.std.{proofs.lemmas.Fmt.decimal_is_IsNumeral, proofs.lemmas.List.append-nil, specs.List.All}
use Rattle.std.proofs.lemmas.List.Elements.{All-head, All-tail, All-append, All-cons}
use Rattle.tsp_script.specs.{Schedules.numbers_text, Schedules.joined_text, Schedules.IsNetLine, Words.NoDigit}
use Rattle.tsp_script.proofs.FrontDigits.{NoDigit_nil, NoDigit_other, front_one}

-- no digit stands first in numbers that have spaces before them
NoDigit_numbers : (ns : List ℕ) → NoDigit (numbers_text ns)
NoDigit_numbers [] = NoDigit_nil
NoDigit_numbers (n ∷ ns) = NoDigit_other 32 (decimal n ++ numbers_text ns) (λ x. omega (arith, x))

-- one small number more
pub All_small : (items : List ℕ) (n : ℕ) → All (λ m. m < 2 ^ 32) items → n < 2 ^ 32 → All (λ m. m < 2 ^ 32) (items ++ n ∷ [])
All_small items n all h = All-append (λ m. m < 2 ^ 32) items (n ∷ []) all (All-cons (λ m. m < 2 ^ 32) n [] h (λ k d lt. absurd (omega arith)))

-- what is left of some numbers when their text is read as far as rest
abbrev pub Left : List ℕ → List ℕ → List ℕ → Type 0
Left numbers items rest = (left : List ℕ) × (numbers ≡ items ++ left) × (rest ≡ numbers_text left)

-- what no number stands at the front of
abbrev pub NoNumber : List ℕ → Type 0
NoNumber text = (n : ℕ) (rest : List ℕ) → n < 2 ^ 32 → NoDigit rest → text ≡ decimal n ++ rest → ⊥

-- the first of some numbers
pub first_read : (ns text rest : List ℕ) (number : ℕ) → IsNetLine ns → text ≡ joined_text ns → number < 2 ^ 32 → NoDigit rest → text ≡ decimal number ++ rest →
    Left ns (number ∷ []) rest
first_read [] text rest number h e small none f = absurd (let s = h.some in omega (arith, s))
first_read (n ∷ ns) text rest number h e small none f =
    let k : n < 2 ^ 32 = All-head (λ m. m < 2 ^ 32) n ns h.small in
    let same = front_one number n rest (numbers_text ns) (omega (arith, small)) (omega (arith, k)) none (NoDigit_numbers ns) (sym f ∙ e) in
    (ns, ap (λ x. x ∷ ns) (sym same.0), same.1)

-- where no number stands first, a text is of no network
pub no_first : (ns text : List ℕ) → IsNetLine ns → text ≡ joined_text ns → NoNumber text → ⊥
no_first [] text h e none = absurd (let s = h.some in omega (arith, s))
no_first (n ∷ ns) text h e none = none n (numbers_text ns) (All-head (λ m. m < 2 ^ 32) n ns h.small) (NoDigit_numbers ns) e

All_middle : (items : List ℕ) (n : ℕ) (left : List ℕ) → All (λ m. m < 2 ^ 32) (items ++ n ∷ left) → n < 2 ^ 32
All_middle [] n left all = All-head (λ m. m < 2 ^ 32) n left all
All_middle (x ∷ items) n left all = All_middle items n left (All-tail (λ m. m < 2 ^ 32) x (items ++ n ∷ left) all)

-- what follows a space at the front of a text
behind_space : (a b : List ℕ) → 32 ∷ a ≡ codes " " ++ b → b ≡ a
behind_space a b e = cc

-- where text is left, it has a space and the next of the numbers
pub next_there : (numbers items rest : List ℕ) → All (λ m. m < 2 ^ 32) numbers → 0 < length rest → Left numbers items rest
    → (n : ℕ) × (ns : List ℕ) × (n < 2 ^ 32) × (numbers ≡ items ++ n ∷ ns) × (rest ≡ codes " " ++ decimal n ++ numbers_text ns) ×
    (length items < length numbers)
next_there numbers items rest all some ([], p, q) = absurd (let z : length rest ≡ 0 = ap length q in omega (arith, z, some))
next_there numbers items rest all some (n ∷ ns, p, q) =
    (n, ns, All_middle items n ns (subst (λ (l : List ℕ). All (λ m. m < 2 ^ 32) l) p all), p, q, omega (arith, ap length p, length-append items (n ∷ ns)))

-- where no text is left, all the numbers are read
pub all_read : (numbers items rest : List ℕ) → Left numbers items rest → length rest ≡ 0 → items ≡ numbers
all_read numbers items rest ([], p, q) none = sym (p ∙ append-nil items)
all_read numbers items rest (n ∷ ns, p, q) none = absurd (let z : length rest ≡ length (numbers_text (n ∷ ns)) = ap length q in omega (arith, z, none))

-- the next of the numbers is read
pub next_read : (numbers items more rest next behind : List ℕ) (number : ℕ) → All (λ m. m < 2 ^ 32) numbers → 0 < length rest → Left numbers items rest
    → rest ≡ codes " " ++ next → number < 2 ^ 32 → NoDigit behind → next ≡ decimal number ++ behind → more ≡ items ++ number ∷ [] → Left numbers more behind
next_read numbers items more rest next behind number all some left e small none f m =
    let t = next_there numbers items rest all some left in
    let same = front_one number t.0 behind (numbers_text t.1) (omega (arith, small)) (omega (arith, t.2)) none (NoDigit_numbers t.1) (sym f ∙
    behind_space (decimal t.0 ++ numbers_text t.1) next (sym t.4 ∙ e)) in
    (t.1, t.3 ∙ sym (rw (m, append_assoc) (ap (λ x. items ++ x ∷ t.1) same.0)), same.1)

pub no_next : (numbers items rest next : List ℕ) → All (λ m. m < 2 ^ 32) numbers → 0 < length rest → Left numbers items rest → rest ≡ codes " " ++ next →
    NoNumber next → ⊥
no_next numbers items rest next all some left e none =
    let t = next_there numbers items rest all some left in
    none t.0 (numbers_text t.1) t.2 (NoDigit_numbers t.1) (behind_space (decimal t.0 ++ numbers_text t.1) next (sym t.4 ∙ e))

-- a text that is read a number further
numbers_more : (items : List ℕ) (n : ℕ) → numbers_text (items ++ n ∷ []) ≡ numbers_text items ++ (32 ∷ decimal n)
numbers_more [] n = append-nil (32 ∷ decimal n)
numbers_more (x ∷ items) n = ap (λ l. (32 ∷ decimal x) ++ l) (numbers_more items n) ∙ sym (append_assoc (32 ∷ decimal x) (numbers_text items) (32 ∷ decimal n))

joined_more : (items : List ℕ) (n : ℕ) → 0 < length items → joined_text (items ++ n ∷ []) ≡ joined_text items ++ (32 ∷ decimal n)
joined_more [] n some = absurd (omega (arith, some))
joined_more (x ∷ items) n some = ap (λ l. decimal x ++ l) (numbers_more items n) ∙ sym (append_assoc (decimal x) (numbers_text items) (32 ∷ decimal n))

pub text_more : (text items more rest next behind : List ℕ) (number : ℕ) → 0 < length items → text ≡ joined_text items ++ rest → rest ≡ codes " " ++ next →
    next ≡ decimal number ++ behind → more ≡ items ++ number ∷ []
    → text ≡ joined_text more ++ behind
text_more text items more rest next behind number some t e f m =
    t ∙ ap (λ l. joined_text items ++ l) (e ∙ ap (λ l. 32 ∷ l) f) ∙ sym (append_assoc (joined_text items) (32 ∷ decimal number) behind)
    ∙ ap (λ l. l ++ behind) (sym (joined_more items number some) ∙ ap joined_text (sym m))

-- the text of some numbers has an octet
joined_some : (n : ℕ) (ns : List ℕ) → n < 2 ^ 32 → 0 < length (joined_text (n ∷ ns))
joined_some n ns h = omega (arith, length-append (decimal n) (numbers_text ns), (decimal_is_IsNumeral n (omega (arith, h))).0.0)

-- a text is of one list of numbers
behind_same : (a b : List ℕ) → 32 ∷ a ≡ 32 ∷ b → a ≡ b
behind_same a b e = cc

numbers_joined : (x y : ℕ) (xs ys : List ℕ) → x < 2 ^ 32 → y < 2 ^ 32 → (numbers_text xs ≡ numbers_text ys → xs ≡ ys) → decimal x ++ numbers_text xs ≡
    decimal y ++ numbers_text ys → x ∷ xs ≡ y ∷ ys
numbers_joined x y xs ys a b later e =
    let same = front_one x y (numbers_text xs) (numbers_text ys) (omega (arith, a)) (omega (arith, b)) (NoDigit_numbers xs) (NoDigit_numbers ys) e in
    rw (same.0, later same.1) refl

numbers_text_injective : (xs ys : List ℕ) → All (λ n. n < 2 ^ 32) xs → All (λ n. n < 2 ^ 32) ys → numbers_text xs ≡ numbers_text ys → xs ≡ ys
numbers_text_injective [] [] h k e = refl
numbers_text_injective [] (y ∷ ys) h k e = absurd (let z : 0 ≡ length (numbers_text (y ∷ ys)) = ap length e in omega (arith, z))
numbers_text_injective (x ∷ xs) [] h k e = absurd (let z : length (numbers_text (x ∷ xs)) ≡ 0 = ap length e in omega (arith, z))
numbers_text_injective (x ∷ xs) (y ∷ ys) h k e =
    numbers_joined x y xs ys (All-head (λ n. n < 2 ^ 32) x xs h) (All-head (λ n. n < 2 ^ 32) y ys k)
    (numbers_text_injective xs ys (All-tail (λ n. n < 2 ^ 32) x xs h) (All-tail (λ n. n < 2 ^ 32) y ys k))
    (behind_same (decimal x ++ numbers_text xs) (decimal y ++ numbers_text ys) e)

pub joined_text_injective : (xs ys : List ℕ) → All (λ n. n < 2 ^ 32) xs → All (λ n. n < 2 ^ 32) ys → joined_text xs ≡ joined_text ys → xs ≡ ys
joined_text_injective [] [] h k e = refl
joined_text_injective [] (y ∷ ys) h k e = absurd (let z : 0 ≡ length (joined_text (y ∷ ys)) = ap length e in
    omega (arith, z, joined_some y ys (All-head (λ n. n < 2 ^ 32) y ys k)))
joined_text_injective (x ∷ xs) [] h k e = absurd (let z : length (joined_text (x ∷ xs)) ≡ 0 = ap length e in
    omega (arith, z, joined_some x xs (All-head (λ n. n < 2 ^ 32) x xs h)))
joined_text_injective (x ∷ xs) (y ∷ ys) h k e =
    numbers_joined x y xs ys (All-head (λ n. n < 2 ^ 32) x xs h) (All-head (λ n. n < 2 ^ 32) y ys k)
    (numbers_text_injective xs ys (All-tail (λ n. n < 2 ^ 32) x xs h) (All-tail (λ n. n < 2 ^ 32) y ys k)) e

-- what is made of a network's numbers is a network's line
pub net_made : (r : Option (List ℕ)) (numbers : List ℕ) → IfSome r (λ m. m ≡ numbers) → IsNetLine numbers → IfSome r IsNetLine
net_made None numbers e h = tt
net_made (Some m) numbers e h = rw e h
