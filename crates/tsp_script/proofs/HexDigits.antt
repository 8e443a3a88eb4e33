-- Pairs of hexadecimal digits that are read by a table.
use Rattle.std.proofs.Common.{◌≡◌, ℕ, zero, suc, ◌+◌, ◌*◌, ◌%◌, ◌<◌, ◌≤◌, ◌==◌, Bool, true, ◌&&◌, inl, inr, List, length, take, drop, slice_index_or, Option}
use Rattle.std.proofs.Common.{Some, None, unwrap_or, Result, Ok, Err, refl, sym, ap, ◌∙◌, subst, append-nil, arith, IsErr}
use Rattle.std.proofs.lemmas.{Bool.and_parts, Bool.cases_lt, Bool.eqb-true, List.drop_all}
use Rattle.hex.specs.Hex.{decode_of, decode_pairs, digit_or_error, hex_digit_value, pair_value, value_at}
use Rattle.hex.specs.declared.error.FromHexError.{FromHexError, TheVariants.InvalidHexCharacter}
use Rattle.hex.proofs.{HexLemmas.decode_of-even, Pairs.prepend, Pairs.decode_err}
use Rattle.tsp_script.specs.declared.hexes.TheConstants.{VALUES}

-- the table is right at the octets below this one
abbrev are_values : ℕ → Bool
are_values zero = true
are_values (suc c) = (slice_index_or VALUES c 0 == unwrap_or (hex_digit_value c) 255) && are_values c

are_values_at : (n c : ℕ) → are_values n ≡ true → c < n → (slice_index_or VALUES c 0 == unwrap_or (hex_digit_value c) 255) ≡ true
are_values_at zero c t h = absurd (omega arith)
are_values_at (suc n) c t h =
    let parts = and_parts (slice_index_or VALUES n 0 == unwrap_or (hex_digit_value n) 255) (are_values n) t in
    elim (cases_lt c n) [
      | inl below ↦ are_values_at n c parts.1 below
      | inr top ↦ let e : c ≡ n = omega arith in rw e parts.0
    ]

-- an octet's place of the table
pub VALUES_at : (c : ℕ) → c < 256 → slice_index_or VALUES c 0 ≡ unwrap_or (hex_digit_value c) 255
VALUES_at c h = eqb-true (slice_index_or VALUES c 0) (unwrap_or (hex_digit_value c) 255) (are_values_at 256 c refl h)

some_value : (o : Option ℕ) (v : ℕ) → v ≡ unwrap_or o 255 → v ≤ 15 → o ≡ Some v
some_value None v e h = absurd (omega arith)
some_value (Some w) v e h = ap Some (sym e)

small_value : (c v : ℕ) → hex_digit_value c ≡ Some v → v < 16
small_value c v h = grind (arith)

no_value : (c v : ℕ) (o : Option ℕ) → hex_digit_value c ≡ o → v ≡ unwrap_or o 255 → 15 < v → o ≡ None
no_value c v None e f h = refl
no_value c v (Some w) e f h = absurd (omega (arith, small_value c w e, f))

-- what the value of an octet says of it
pub value_read : (c v : ℕ) → v ≡ unwrap_or (hex_digit_value c) 255 → v ≤ 15 → hex_digit_value c ≡ Some v
value_read c v e h = some_value (hex_digit_value c) v e h

pub value_none : (c v : ℕ) → v ≡ unwrap_or (hex_digit_value c) 255 → 15 < v → hex_digit_value c ≡ None
value_none c v e h = no_value c v (hex_digit_value c) refl e h

-- what a pair of digits is
pub pair_read : (a b i h l : ℕ) → hex_digit_value a ≡ Some h → hex_digit_value b ≡ Some l → pair_value a b i ≡ Ok (h * 16 + l)
pair_read a b i h l p q =
    let first : value_at a i ≡ Ok h = ap (digit_or_error a i) p in
    let second : value_at b (i + 1) ≡ Ok l = ap (digit_or_error b (i + 1)) q in
    rw (first, second) refl

pair_high : (a b i : ℕ) → hex_digit_value a ≡ None → pair_value a b i ≡ Err (InvalidHexCharacter a i)
pair_high a b i p = let first : value_at a i ≡ Err (InvalidHexCharacter a i) = ap (digit_or_error a i) p in rw first refl

pair_low : (a b i h : ℕ) → hex_digit_value a ≡ Some h → hex_digit_value b ≡ None → pair_value a b i ≡ Err (InvalidHexCharacter b (i + 1))
pair_low a b i h p q =
    let first : value_at a i ≡ Ok h = ap (digit_or_error a i) p in
    let second : value_at b (i + 1) ≡ Err (InvalidHexCharacter b (i + 1)) = ap (digit_or_error b (i + 1)) q in
    rw (first, second) refl

is_err : (r : Result (List ℕ) FromHexError) (e : FromHexError) → r ≡ Err e → IsErr r
is_err r e p = subst IsErr (sym p) refl

-- a text with an octet that is no digit
refused_at : (s out : List ℕ) (i : ℕ) (e : FromHexError) → length s % 2 ≡ 0 → 2 * i + 1 < length s →
    pair_value (slice_index_or s (2 * i) 0) (slice_index_or s (2 * i + 1) 0) (2 * i) ≡ Err e
    → decode_pairs 0 s ≡ prepend (take i out) (decode_pairs (2 * i) (drop (2 * i) s)) → IsErr (decode_of s)
refused_at s out i e even fits bad inv = is_err (decode_of s) e (decode_of-even s even ∙ decode_err s out i e fits bad inv)

pub refused_high : (s out : List ℕ) (i v : ℕ) → length s % 2 ≡ 0 → 2 * i + 1 < length s → v ≡ unwrap_or (hex_digit_value (slice_index_or s (2 * i) 0)) 255 →
    15 < v
    → decode_pairs 0 s ≡ prepend (take i out) (decode_pairs (2 * i) (drop (2 * i) s)) → IsErr (decode_of s)
refused_high s out i v even fits e h inv = refused_at s out i _ even fits (pair_high (slice_index_or s (2 * i) 0) (slice_index_or s (2 * i + 1) 0) (2 * i)
    (value_none (slice_index_or s (2 * i) 0) v e h)) inv

pub refused_low : (s out : List ℕ) (i v w : ℕ) → length s % 2 ≡ 0 → 2 * i + 1 < length s → v ≡ unwrap_or (hex_digit_value (slice_index_or s (2 * i) 0)) 255 →
    v ≤ 15
    → w ≡ unwrap_or (hex_digit_value (slice_index_or s (2 * i + 1) 0)) 255 → 15 < w
    → decode_pairs 0 s ≡ prepend (take i out) (decode_pairs (2 * i) (drop (2 * i) s)) → IsErr (decode_of s)
refused_low s out i v w even fits e h f l inv =
    refused_at s out i _ even fits (pair_low (slice_index_or s (2 * i) 0) (slice_index_or s (2 * i + 1) 0) (2 * i) v
    (value_read (slice_index_or s (2 * i) 0) v e h) (value_none (slice_index_or s (2 * i + 1) 0) w f l)) inv

-- a text whose pairs were all read
pub decoded : (s out : List ℕ) (i : ℕ) → length s % 2 ≡ 0 → length s ≤ 2 * i → decode_pairs 0 s ≡ prepend (take i out) (decode_pairs (2 * i) (drop (2 * i) s)) →
    decode_of s ≡ Ok (take i out)
unfolding decode_pairs
decoded s out i even fits inv =
    decode_of-even s even ∙ inv ∙ ap (prepend (take i out)) (ap (decode_pairs (2 * i)) (drop_all (2 * i) s fits)) ∙ ap Ok (append-nil (take i out))
