-- Numbers as text, two digits at a time.
use Rattle.std.proofs.Common.{◌≡◌, ℕ, zero, suc, ◌+◌, ◌*◌, ◌/◌, ◌%◌, ◌^◌, ◌<◌, ◌≤◌, ◌==◌, Bool, true, ◌&&◌, inl, inr, List, [], ◌∷◌, ◌++◌, slice_index_or, refl}
use Rattle.std.proofs.Common.{ap, sym, ◌∙◌, append_assoc, length, length-append, arith, decimal}
use Rattle.std.proofs.lemmas.{Bool.and_parts, Bool.cases_lt, Bool.eqb-true, Fmt.decimal_digit}
use Rattle.itoa.proofs.Decimal.{decimal_two, decimal_pair, decimal_four}
use Rattle.tsp_script.specs.declared.decimals.TheConstants.{PAIRS}

-- the table is right at the numbers below this one
abbrev are_pairs : ℕ → Bool
are_pairs zero = true
are_pairs (suc p) = ((slice_index_or PAIRS (p * 2) 0 == 48 + p / 10) && (slice_index_or PAIRS (p * 2 + 1) 0 == 48 + p % 10)) && are_pairs p

are_pairs_at : (n p : ℕ) → are_pairs n ≡ true → p < n → ((slice_index_or PAIRS (p * 2) 0 == 48 + p / 10) && (slice_index_or PAIRS (p * 2 + 1) 0 == 48 + p % 10))
    ≡ true
are_pairs_at zero p t h = absurd (omega arith)
are_pairs_at (suc n) p t h =
    let parts = and_parts ((slice_index_or PAIRS (n * 2) 0 == 48 + n / 10) && (slice_index_or PAIRS (n * 2 + 1) 0 == 48 + n % 10)) (are_pairs n) t in
    elim (cases_lt p n) [
      | inl below ↦ are_pairs_at n p parts.1 below
      | inr top ↦ let e : p ≡ n = omega arith in rw e parts.0
    ]

pub PAIRS_at : (p : ℕ) → p < 100 → (slice_index_or PAIRS (p * 2) 0 ≡ 48 + p / 10) × (slice_index_or PAIRS (p * 2 + 1) 0 ≡ 48 + p % 10)
PAIRS_at p h =
    let parts = and_parts (slice_index_or PAIRS (p * 2) 0 == 48 + p / 10) (slice_index_or PAIRS (p * 2 + 1) 0 == 48 + p % 10) (are_pairs_at 100 p refl h) in
    (eqb-true (slice_index_or PAIRS (p * 2) 0) (48 + p / 10) parts.0, eqb-true (slice_index_or PAIRS (p * 2 + 1) 0) (48 + p % 10) parts.1)

-- the two digits of a number below 100
abbrev pub pair : ℕ → List ℕ
pair n = (48 + n / 10) ∷ (48 + n % 10) ∷ []

-- the four digits of a number below 10,000
abbrev pub four : ℕ → List ℕ
four n = pair (n / 100) ++ pair (n % 100)

-- what was written behind something else, in two parts
pub written : (out then now front back whole : List ℕ) → then ≡ out ++ front → now ≡ then ++ back → whole ≡ front ++ back → now ≡ out ++ whole
written out then now front back whole e f g = f ∙ ap (λ l. l ++ back) e ∙ append_assoc out front back ∙ ap (λ l. out ++ l) (sym g)

-- the two digits that the table has for a number
pub table_pair : (p : ℕ) → p < 100 → slice_index_or PAIRS (p * 2) 0 ∷ slice_index_or PAIRS (p * 2 + 1) 0 ∷ [] ≡ pair p
table_pair p h = let e = PAIRS_at p h in rw (e.0, e.1) refl

-- three digits and four
pub decimal_three : (n : ℕ) → 100 ≤ n → n < 1000 → decimal n ≡ ((48 + n / 100) ∷ []) ++ pair (n % 100)
decimal_three n low high = decimal_pair n low (omega arith) ∙ ap (λ l. l ++ pair (n % 100)) (decimal_digit (n / 100) (omega arith))

pub decimal_four_alone : (n : ℕ) → 1000 ≤ n → n < 10000 → decimal n ≡ four n
decimal_four_alone n low high = decimal_pair n (omega arith) (omega arith) ∙ ap (λ l. l ++ pair (n % 100)) (decimal_two (n / 100) (omega arith) (omega arith))

-- and eight behind others
pub decimal_eight : (n : ℕ) → 100000000 ≤ n → n < 2 ^ 64 → decimal n ≡ decimal (n / 100000000) ++ (four (n % 100000000 / 10000) ++ four (n % 100000000 % 10000))
decimal_eight n low high =
    let a : n / 10000 / 10000 ≡ n / 100000000 = omega arith in
    let b : n / 10000 % 10000 ≡ n % 100000000 / 10000 = omega arith in
    let d : n % 10000 ≡ n % 100000000 % 10000 = omega arith in
    let whole = decimal_four n (omega arith) high ∙ ap (λ l. l ++ four (n % 10000)) (decimal_four (n / 10000) (omega arith) (omega arith)) ∙
    append_assoc (decimal (n / 10000 / 10000)) (four (n / 10000 % 10000)) (four (n % 10000)) in
    rw (a, b, d) at whole

-- how many digits they are
pub length_three : (n : ℕ) → 100 ≤ n → n < 1000 → length (decimal n) ≡ 3
length_three n low high = ap length (decimal_three n low high)

pub length_four_alone : (n : ℕ) → 1000 ≤ n → n < 10000 → length (decimal n) ≡ 4
length_four_alone n low high = ap length (decimal_four_alone n low high)

pub length_eight : (n : ℕ) → 100000000 ≤ n → n < 2 ^ 64 → length (decimal n) ≡ length (decimal (n / 100000000)) + 8
length_eight n low high = ap length (decimal_eight n low high) ∙ length-append (decimal (n / 100000000)) (four (n % 100000000 / 10000) ++
    four (n % 100000000 % 10000))

pub length_written : (out now front : List ℕ) → now ≡ out ++ front → length now ≡ length out + length front
length_written out now front e = ap length e ∙ length-append out front
