-- Laws of the number whose digits some octets begin with.
use Rattle.std.proofs.Common.{◌≡◌, ℕ, ◌+◌, ◌-◌, ◌*◌, ◌/◌, ◌%◌, ◌<◌, ◌≤◌, ◌^◌, List, [], ◌∷◌, ◌++◌, length, take, drop, take-append-drop, zero, suc, refl, sym}
use Rattle.std.proofs.Common.{ap, ◌∙◌, append_assoc, arith, get_or, decimal, Option, None, Some, IfSome, IfNone, ℤ, pos, negsuc}
use Rattle.std.specs.{Char.digit_value, Fmt.signed_decimal, Int.w64, Int.RustNames.FitsSigned, Str.Parse.AllDigits, Str.Parse.digits_value}
use Rattle.std.proofs.lemmas.Fmt.{decimal_is_IsNumeral, decimal_is_IsNumeral_wide, decimal_injective, decimal_step_wide, decimal_digit, first_decimal}
use Rattle.std.proofs.lemmas.{List.append-nil, Str.Parse.digit_from_value, Str.Parse.digits_value-take-le}
use Rattle.tsp_script.specs.Words.{NoDigit}

head_is : (x y : ℕ) (xs ys : List ℕ) → x ∷ xs ≡ y ∷ ys → x ≡ y
head_is x y xs ys e = cc

tail_is : (x y : ℕ) (xs ys : List ℕ) → x ∷ xs ≡ y ∷ ys → xs ≡ ys
tail_is x y xs ys e = cc

-- nothing stands first, or an octet that is no digit
pub NoDigit_nil : NoDigit []
NoDigit_nil d r h e = let n : 0 ≡ length ((48 + d) ∷ r) = ap length e in omega (arith, n)

pub NoDigit_other : (c : ℕ) (cs : List ℕ) → (48 ≤ c → 58 ≤ c) → NoDigit (c ∷ cs)
NoDigit_other c cs o d r h e = let q = head_is c (48 + d) cs r e in omega (arith, q, o)

not_first : (c : ℕ) (cs rest : List ℕ) → digit_value c < 10 → NoDigit rest → rest ≡ c ∷ cs → ⊥
not_first c cs rest a n e =
    let k = digit_from_value c a in
    let q : 48 + (c - 48) ≡ c = omega (arith, k) in
    n (c - 48) cs (omega (arith, k)) (e ∙ ap (λ x. x ∷ cs) (sym q))

cons_same : (x y : ℕ) (xs ys : List ℕ) → x ≡ y → xs ≡ ys → x ∷ xs ≡ y ∷ ys
cons_same x y xs ys e f = cc

-- two texts of digits in front of what begins with no digit are the same
digits_apart : (xs ys r s : List ℕ) → AllDigits 10 xs → AllDigits 10 ys → NoDigit r → NoDigit s → xs ++ r ≡ ys ++ s → (xs ≡ ys) × (r ≡ s)
digits_apart [] [] r s a b n m e = (refl, e)
digits_apart [] (y ∷ ys) r s a b n m e = absurd (not_first y (ys ++ s) r b.0 n e)
digits_apart (x ∷ xs) [] r s a b n m e = absurd (not_first x (xs ++ r) s a.0 m (sym e))
digits_apart (x ∷ xs) (y ∷ ys) r s a b n m e =
    let t = digits_apart xs ys r s a.1 b.1 n m (tail_is x y (xs ++ r) (ys ++ s) e) in
    (cons_same x y xs ys (head_is x y (xs ++ r) (ys ++ s) e) t.0, t.1)

-- digits are the first of those that stand in front of what begins with no digit
digits_front : (xs ys r s : List ℕ) → AllDigits 10 xs → NoDigit s → xs ++ r ≡ ys ++ s → xs ≡ take (length xs) ys
digits_front [] ys r s a m e = refl
digits_front (x ∷ xs) [] r s a m e = absurd (not_first x (xs ++ r) s a.0 m (sym e))
digits_front (x ∷ xs) (y ∷ ys) r s a m e =
    cons_same x y xs (take (length xs) ys) (head_is x y (xs ++ r) (ys ++ s) e) (digits_front xs ys r s a.1 m (tail_is x y (xs ++ r) (ys ++ s) e))

-- numbers in front of what begins with no digit
pub front_one : (m n : ℕ) (r s : List ℕ) → m < 2 ^ 64 → n < 2 ^ 64 → NoDigit r → NoDigit s → decimal m ++ r ≡ decimal n ++ s → (m ≡ n) × (r ≡ s)
front_one m n r s h k a b e =
    let t = digits_apart (decimal m) (decimal n) r s (decimal_is_IsNumeral m h).0.1 (decimal_is_IsNumeral n k).0.1 a b e in
    (decimal_injective m n h k t.0, t.1)

-- a number is at least what its first digits make
at_least : (w n : ℕ) (r s : List ℕ) → w < 10 ^ 64 → n < 2 ^ 64 → NoDigit s → decimal w ++ r ≡ decimal n ++ s → w ≤ n
at_least w n r s h k b e =
    let d = decimal_is_IsNumeral_wide w h in
    let f = digits_front (decimal w) (decimal n) r s d.0.1 b e in
    let v : digits_value 10 (decimal w) ≡ digits_value 10 (take (length (decimal w)) (decimal n)) = ap (digits_value 10) f in
    omega (arith, d.1, v, digits_value-take-le 10 (decimal n) (length (decimal w)) (omega arith), (decimal_is_IsNumeral n k).1)

-- a digit behind a number that isn't 0
digit_behind : (n d : ℕ) → 0 < n → n < 2 ^ 64 → d < 10 → decimal (n * 10 + d) ≡ decimal n ++ (48 + d) ∷ []
digit_behind n d some small low =
    let q : (n * 10 + d) / 10 ≡ n = omega arith in
    let r : (n * 10 + d) % 10 ≡ d = omega arith in
    let s = decimal_step_wide (n * 10 + d) (omega arith) (omega arith) in
    rw (q, r) at s

pub digit_taken : (front n d : ℕ) (digits rest behind : List ℕ) → 0 < n → n < 2 ^ 64 → d < 10 → rest ≡ (48 + d) ∷ behind → decimal front ++ digits ≡
    decimal n ++ rest → decimal front ++ digits ≡ decimal (n * 10 + d) ++ behind
digit_taken front n d digits rest behind some small low e w =
    w ∙ ap (λ x. decimal n ++ x) e ∙ sym (append_assoc (decimal n) ((48 + d) ∷ []) behind) ∙ ap (λ x. x ++ behind) (sym (digit_behind n d some small low))

-- no number of 64 bits is written so where the first digits make more
pub too_large : (front n d : ℕ) (digits rest behind : List ℕ) → 0 < n → n < 2 ^ 64 → d < 10 → rest ≡ (48 + d) ∷ behind → decimal front ++ digits ≡ decimal n ++
    rest → 2 ^ 64 ≤ n * 10 + d
    → (m : ℕ) (s : List ℕ) → m < 2 ^ 64 → NoDigit s → decimal front ++ digits ≡ decimal m ++ s → ⊥
too_large front n d digits rest behind some small low e w large m s k b f =
    let t = digit_taken front n d digits rest behind some small low e w in
    let l = at_least (n * 10 + d) m behind s (omega arith) k b (sym t ∙ f) in
    omega (arith, l)

-- a first digit in front of others
pub digit_and : (d : ℕ) (octets rest : List ℕ) → d < 10 → octets ≡ (48 + d) ∷ rest → octets ≡ decimal d ++ rest
digit_and d octets rest h e = e ∙ ap (λ x. x ++ rest) (sym (decimal_digit d h))

-- a number's text begins with a digit
pub no_number : (octets : List ℕ) → NoDigit octets → (n : ℕ) (rest : List ℕ) → n < 2 ^ 64 → NoDigit rest → octets ≡ decimal n ++ rest → ⊥
no_number octets none n rest h b e = first (decimal n) (decimal_is_IsNumeral n h).0.0 (decimal_is_IsNumeral n h).0.1 e where
  first : (ds : List ℕ) → 0 < length ds → AllDigits 10 ds → octets ≡ ds ++ rest → ⊥
  first [] some all f = absurd (omega (arith, some))
  first (c ∷ cs) some all f = not_first c (cs ++ rest) octets all.0 none f

-- a number with a dash before it is below zero
pub signed_behind : (word digits : List ℕ) (z : ℤ) → FitsSigned w64 z → word ≡ 45 ∷ digits → word ≡ signed_decimal z → (n : ℕ) × (z ≡ negsuc n) × (n < 2 ^ 63) ×
    (digits ≡ decimal (suc n))
signed_behind word digits (pos n) h d e =
    absurd (no_number (45 ∷ digits) (NoDigit_other 45 digits (λ x. omega (arith, x))) n [] (omega (arith, h.sfits)) NoDigit_nil (sym d ∙ e ∙
    sym (append-nil (decimal n))))
signed_behind word digits (negsuc n) h d e = (n, refl, omega (arith, h.sfits), tail_is 45 45 digits (decimal (suc n)) (sym d ∙ e))

-- no number is written with a 0 and another digit
pub no_leading_zero : (d : ℕ) (octets behind rest : List ℕ) → d < 10 → octets ≡ 48 ∷ behind → behind ≡ (48 + d) ∷ rest → (n : ℕ) (s : List ℕ) → n < 2 ^ 64 →
    NoDigit s → octets ≡ decimal n ++ s → ⊥
no_leading_zero d octets behind rest h e f n s k b g = zero_case n k g where
  written : (ds : List ℕ) → 0 < length ds → octets ≡ ds ++ s → get_or ds 0 0 ≡ 48
  written [] some q = absurd (omega (arith, some))
  written (c ∷ cs) some q = sym (head_is 48 c behind (cs ++ s) (sym e ∙ q))

  zero_case : (m : ℕ) → m < 2 ^ 64 → octets ≡ decimal m ++ s → ⊥
  zero_case zero l q =
      let z : octets ≡ 48 ∷ s = q ∙ ap (λ x. x ++ s) (decimal_digit 0 (omega arith)) in
      b d rest h (sym (tail_is 48 48 behind s (sym e ∙ z)) ∙ f)
  zero_case (suc m) l q =
      omega (arith, first_decimal (suc m) (omega arith) l, written (decimal (suc m)) (decimal_is_IsNumeral (suc m) l).0.0 q)

-- a first digit that is 0
pub zero_first : (d : ℕ) (octets rest : List ℕ) → d ≡ 0 → octets ≡ (48 + d) ∷ rest → octets ≡ 48 ∷ rest
zero_first d octets rest z e = rw z at e

-- digits of which the first were read
pub digits_split : (front n k : ℕ) (ds back : List ℕ) → decimal n ≡ decimal front ++ take k ds → back ≡ drop k ds → decimal front ++ ds ≡ decimal n ++ back
digits_split front n k ds back e b =
    ap (λ x. decimal front ++ x) (sym (take-append-drop k ds)) ∙ sym (append_assoc (decimal front) (take k ds) (drop k ds)) ∙ ap (λ x. x ++ drop k ds) (sym e) ∙
    ap (λ x. decimal n ++ x) (sym b)

-- what is found of a text is found of one that is the same
pub if_found : {T : Type 0} (r : Option T) (n : T → ℕ) (back : T → List ℕ) (text other : List ℕ) → text ≡ other
    → IfSome r (λ t. (n t < 2 ^ 64) × NoDigit (back t) × (other ≡ decimal (n t) ++ back t)) → IfSome r (λ t. (n t < 2 ^ 64) × NoDigit (back t) ×
    (text ≡ decimal (n t) ++ back t))
if_found None n back text other e h = h
if_found (Some t) n back text other e h = (h.0, h.1, e ∙ h.2)

pub if_unfound : {T : Type 0} (r : Option T) (text other : List ℕ) → text ≡ other
    → IfNone r ((n : ℕ) (rest : List ℕ) → n < 2 ^ 64 → NoDigit rest → other ≡ decimal n ++ rest → ⊥) → IfNone r ((n : ℕ) (rest : List ℕ) → n < 2 ^ 64 →
    NoDigit rest → text ≡ decimal n ++ rest → ⊥)
if_unfound None text other e h = λ n rest k b f. h n rest k b (sym e ∙ f)
if_unfound (Some t) text other e h = h

-- a number alone
pub front_alone : (word rest : List ℕ) (n : ℕ) → word ≡ decimal n ++ rest → length rest ≡ 0 → word ≡ decimal n
front_alone word [] n e z = e ∙ append-nil (decimal n)
front_alone word (x ∷ xs) n e z = absurd (omega (arith, z))

pub none_left : (m n : ℕ) (rest : List ℕ) → m < 2 ^ 64 → n < 2 ^ 64 → NoDigit rest → decimal m ++ rest ≡ decimal n → (m ≡ n) × (rest ≡ [])
none_left m n rest h k b e = front_one m n rest [] h k b NoDigit_nil (e ∙ sym (append-nil (decimal n)))
