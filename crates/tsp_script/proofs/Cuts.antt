-- Laws of the words of a line: texts that are the same have the same words and numbers.
use Rattle.std.proofs.Common.{◌≡◌, ◌≢◌, ℕ, ◌<◌, List, [], ◌∷◌, ◌++◌, zero, suc, length, take, drop, slice_index_or, refl, ap, sym, subst, ◌∙◌, inl, inr, arith}
use Rattle.std.proofs.Common.{Contains, decimal, ◌^◌, ℤ, pos, negsuc}
use Rattle.std.specs.{Fmt.signed_decimal, Str.Parse.AllDigits, Int.w64, Int.RustNames.FitsSigned}
use Rattle.std.proofs.lemmas.{Bool.Decides.eqb_tells, Fmt.decimal_is_IsNumeral, Fmt.decimal_injective, Fmt.signed_decimal_injective}
use lib.Signed.{mag}
use Rattle.tsp_script.specs.Words.{before_mark, after_mark, first_word, after_word}

contains_first : (m : ℕ) (xs : List ℕ) (c : ℕ) → c ≡ m → Contains (c ∷ xs) m
contains_first m xs c e = (0, omega arith, e)

contains_later : (m : ℕ) (xs : List ℕ) (c : ℕ) → Contains xs m → Contains (c ∷ xs) m
contains_later m xs c k = (suc k.0, omega (arith, k.1), k.2)

before_mark_mark : (m c : ℕ) (cs : List ℕ) → c ≡ m → before_mark m (c ∷ cs) ≡ []
before_mark_mark m c cs h = grind arith

before_mark_other : (m c : ℕ) (cs : List ℕ) → c ≢ m → before_mark m (c ∷ cs) ≡ c ∷ before_mark m cs
before_mark_other m c cs h = grind arith

after_mark_mark : (m c : ℕ) (cs : List ℕ) → c ≡ m → after_mark m (c ∷ cs) ≡ cs
after_mark_mark m c cs h = grind arith

after_mark_other : (m c : ℕ) (cs : List ℕ) → c ≢ m → after_mark m (c ∷ cs) ≡ after_mark m cs
after_mark_other m c cs h = grind arith

-- a line with its first mark at a place
pub before_mark_at : (m : ℕ) (line : List ℕ) (i : ℕ) → i < length line → ¬ Contains (take i line) m → slice_index_or line i 0 ≡ m → before_mark m line ≡
    take i line
before_mark_at m [] i h n e = absurd (omega arith)
before_mark_at m (c ∷ cs) zero h n e = before_mark_mark m c cs e
before_mark_at m (c ∷ cs) (suc i) h n e =
    let ne : c ≢ m = λ q. n (contains_first m (take i cs) c q) in
    before_mark_other m c cs ne ∙ ap (λ xs. c ∷ xs) (before_mark_at m cs i (omega arith) (λ k. n (contains_later m (take i cs) c k)) e)

pub after_mark_at : (m : ℕ) (line : List ℕ) (i : ℕ) → i < length line → ¬ Contains (take i line) m → slice_index_or line i 0 ≡ m → after_mark m line ≡
    drop (suc i) line
after_mark_at m [] i h n e = absurd (omega arith)
after_mark_at m (c ∷ cs) zero h n e = after_mark_mark m c cs e
after_mark_at m (c ∷ cs) (suc i) h n e =
    let ne : c ≢ m = λ q. n (contains_first m (take i cs) c q) in
    after_mark_other m c cs ne ∙ after_mark_at m cs i (omega arith) (λ k. n (contains_later m (take i cs) c k)) e

-- a line without a mark
pub before_mark_alone : (m : ℕ) (word : List ℕ) → ¬ Contains word m → before_mark m word ≡ word
before_mark_alone m [] n = refl
before_mark_alone m (c ∷ cs) n =
    let ne : c ≢ m = λ q. n (contains_first m cs c q) in
    before_mark_other m c cs ne ∙ ap (λ xs. c ∷ xs) (before_mark_alone m cs (λ k. n (contains_later m cs c k)))

pub after_mark_alone : (m : ℕ) (word : List ℕ) → ¬ Contains word m → after_mark m word ≡ []
after_mark_alone m [] n = refl
after_mark_alone m (c ∷ cs) n =
    let ne : c ≢ m = λ q. n (contains_first m cs c q) in
    after_mark_other m c cs ne ∙ after_mark_alone m cs (λ k. n (contains_later m cs c k))

-- what stands in front of a mark, and behind it
before_mark_front : (m : ℕ) (word rest : List ℕ) → ¬ Contains word m → before_mark m (word ++ m ∷ rest) ≡ word
before_mark_front m [] rest n = before_mark_mark m m rest refl
before_mark_front m (c ∷ cs) rest n =
    let ne : c ≢ m = λ q. n (contains_first m cs c q) in
    before_mark_other m c (cs ++ m ∷ rest) ne ∙ ap (λ xs. c ∷ xs) (before_mark_front m cs rest (λ k. n (contains_later m cs c k)))

after_mark_front : (m : ℕ) (word rest : List ℕ) → ¬ Contains word m → after_mark m (word ++ m ∷ rest) ≡ rest
after_mark_front m [] rest n = after_mark_mark m m rest refl
after_mark_front m (c ∷ cs) rest n =
    let ne : c ≢ m = λ q. n (contains_first m cs c q) in
    after_mark_other m c (cs ++ m ∷ rest) ne ∙ after_mark_front m cs rest (λ k. n (contains_later m cs c k))

pub mark_front : (m : ℕ) (line word rest : List ℕ) → ¬ Contains word m → line ≡ word ++ m ∷ rest → (before_mark m line ≡ word) × (after_mark m line ≡ rest)
mark_front m line word rest n e = rw e (before_mark_front m word rest n, after_mark_front m word rest n)

-- a line of a word, a space and more
pub cut_front : (line word rest : List ℕ) → ¬ Contains word 32 → line ≡ word ++ 32 ∷ rest → (first_word line ≡ word) × (after_word line ≡ rest)
cut_front line word rest n e = mark_front 32 line word rest n e

-- a line with something behind its first mark
pub line_of_marks : (m : ℕ) (line : List ℕ) → 0 < length (after_mark m line) → line ≡ before_mark m line ++ m ∷ after_mark m line
line_of_marks m [] h = absurd (omega arith)
line_of_marks m (c ∷ cs) h = elim (eqb_tells c m) [
  | inl e ↦ rw (before_mark_mark m c cs e.1, after_mark_mark m c cs e.1) (ap (λ x. x ∷ cs) e.1)
  | inr e ↦ rw (before_mark_other m c cs e.1, after_mark_other m c cs e.1) (ap (λ xs. c ∷
      xs) (line_of_marks m cs (let k = h in rw (after_mark_other m c cs e.1) at k)))
]

-- a line with a mark at a place
pub line_at : (m : ℕ) (line : List ℕ) (i : ℕ) → i < length line → slice_index_or line i 0 ≡ m → line ≡ take i line ++ m ∷ drop (suc i) line
line_at m [] i h e = absurd (omega arith)
line_at m (c ∷ cs) zero h e = ap (λ x. x ∷ cs) e
line_at m (c ∷ cs) (suc i) h e = ap (λ xs. c ∷ xs) (line_at m cs i (omega arith) e)

pub mark_inside : (m : ℕ) (word rest : List ℕ) → Contains (word ++ m ∷ rest) m
mark_inside m [] rest = contains_first m rest m refl
mark_inside m (c ∷ cs) rest = contains_later m (cs ++ m ∷ rest) c (mark_inside m cs rest)

pub space_inside : (line word rest : List ℕ) → line ≡ word ++ 32 ∷ rest → Contains line 32
space_inside line word rest e = subst (λ l. Contains l 32) (sym e) (mark_inside 32 word rest)

pub cut_back : (line word rest text : List ℕ) → word ≡ first_word line → rest ≡ after_word line → word ≡ text → 0 < length rest → line ≡ text ++ 32 ∷ rest
cut_back line word rest text v r e h =
    let behind : 0 < length (after_word line) = omega (arith, ap length r) in
    line_of_marks 32 line behind ∙ rw (sym v ∙ e, sym r) refl

-- what is no digit stands in no number
no_mark_digits : (m : ℕ) (ds : List ℕ) → (AllDigits 10 (m ∷ []) → ⊥) → AllDigits 10 ds → ¬ Contains ds m
no_mark_digits m [] v a (k, h, e) = omega arith
no_mark_digits m (c ∷ cs) v a (zero, h, e) = v (subst (λ (x : ℕ). AllDigits 10 (x ∷ [])) e (a.0, tt))
no_mark_digits m (c ∷ cs) v a (suc k, h, e) = no_mark_digits m cs v a.1 (k, omega arith, e)

pub no_feed_decimal : (n : ℕ) → n < 2 ^ 64 → ¬ Contains (decimal n) 10
no_feed_decimal n h = no_mark_digits 10 (decimal n) (λ a. omega (arith, a.0)) (decimal_is_IsNumeral n h).0.1

pub no_nul_decimal : (n : ℕ) → n < 2 ^ 64 → ¬ Contains (decimal n) 0
no_nul_decimal n h = no_mark_digits 0 (decimal n) (λ a. omega (arith, a.0)) (decimal_is_IsNumeral n h).0.1

pub no_slash_decimal : (n : ℕ) → n < 2 ^ 64 → ¬ Contains (decimal n) 47
no_slash_decimal n h = no_mark_digits 47 (decimal n) (λ a. omega (arith, a.0)) (decimal_is_IsNumeral n h).0.1

pub no_space_decimal : (n : ℕ) → n < 2 ^ 64 → ¬ Contains (decimal n) 32
no_space_decimal n h = no_mark_digits 32 (decimal n) (λ a. omega (arith, a.0)) (decimal_is_IsNumeral n h).0.1

pub no_space_later : (c : ℕ) (cs : List ℕ) → c ≢ 32 → ¬ Contains cs 32 → ¬ Contains (c ∷ cs) 32
no_space_later c cs n m (zero, h, e) = n e
no_space_later c cs n m (suc k, h, e) = m (k, omega arith, e)

pub no_space_signed : (z : ℤ) → FitsSigned w64 z → ¬ Contains (signed_decimal z) 32
no_space_signed (pos n) h = no_space_decimal n (omega (arith, h.sfits))
no_space_signed (negsuc n) h = no_space_later 45 (decimal (suc n)) (omega arith) (no_space_decimal (suc n) (omega (arith, h.sfits)))

-- words in front of a mark, and in front of a space
pub marks_apart : (m : ℕ) (v w r s : List ℕ) → ¬ Contains v m → ¬ Contains w m → v ++ m ∷ r ≡ w ++ m ∷ s → (v ≡ w) × (r ≡ s)
marks_apart m v w r s n k e =
    let p = mark_front m (v ++ m ∷ r) v r n refl in
    let q = mark_front m (v ++ m ∷ r) w s k e in
    (sym p.0 ∙ q.0, sym p.1 ∙ q.1)

pub words_apart : (v w r s : List ℕ) → ¬ Contains v 32 → ¬ Contains w 32 → v ++ 32 ∷ r ≡ w ++ 32 ∷ s → (v ≡ w) × (r ≡ s)
words_apart = marks_apart 32

-- numbers in front of a space
pub numbers_apart : (m n : ℕ) (r s : List ℕ) → m < 2 ^ 64 → n < 2 ^ 64 → decimal m ++ 32 ∷ r ≡ decimal n ++ 32 ∷ s → (m ≡ n) × (r ≡ s)
numbers_apart m n r s h k e =
    let p = words_apart (decimal m) (decimal n) r s (no_space_decimal m h) (no_space_decimal n k) e in
    (decimal_injective m n h k p.0, p.1)

-- numbers with their signs in front of a space
pub signs_apart : (t u : ℤ) (r s : List ℕ) → FitsSigned w64 t → FitsSigned w64 u → mag t < 2 ^ 63 → mag u < 2 ^ 63 → signed_decimal t ++ 32 ∷ r ≡
    signed_decimal u ++ 32 ∷ s → (t ≡ u) × (r ≡ s)
signs_apart t u r s h k l m e =
    let p = words_apart (signed_decimal t) (signed_decimal u) r s (no_space_signed t h) (no_space_signed u k) e in
    (signed_decimal_injective t u l m p.0, p.1)
