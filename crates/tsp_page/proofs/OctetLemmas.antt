-- Numbers in octets.
use Rattle.std.proofs.Common.{◌≡◌, ℕ, ◌+◌, ◌*◌, ◌<◌, ◌≤◌, List, [], ◌∷◌, ◌++◌, zero, suc, length, take, get_or, refl, ap, arith}
use Rattle.std.proofs.lemmas.{Grind.common_steps}
use Rattle.std.specs.Int.{w64, to_le_bytes}
use Rattle.tsp_page.specs.Numbers.{octets_of_all}

-- eight octets a number
pub length_octets_of_all : (ns : List ℕ) → length (octets_of_all ns) ≡ 8 * length ns
unfolding octets_of_all
length_octets_of_all [] = refl
length_octets_of_all (n ∷ ns) = let rest = length_octets_of_all ns in omega arith

-- one number more
take_more : (ns : List ℕ) (i : ℕ) → i < length ns → octets_of_all (take (suc i) ns) ≡ octets_of_all (take i ns) ++ to_le_bytes w64 (get_or ns i 0)
unfolding octets_of_all
take_more [] i h = absurd (omega (arith, h))
take_more (n ∷ ns) zero h = refl
take_more (n ∷ ns) (suc i) h = ap (λ z. to_le_bytes w64 n ++ z) (take_more ns i (omega (arith, h)))

pub octets_of_all_take_suc : (ns : List ℕ) (i : ℕ) → i < length ns → octets_of_all (take (i + 1) ns) ≡ octets_of_all (take i ns) ++ to_le_bytes w64
    (get_or ns i 0)
octets_of_all_take_suc ns i h = let e : i + 1 ≡ suc i = omega arith in rw e (take_more ns i h)

-- the numbers so far leave room for one more
pub length_octets_so_far : (ns : List ℕ) (i : ℕ) → i < length ns → length (octets_of_all (take i ns)) + 8 ≤ 8 * length ns
length_octets_so_far ns i h =
    let so_far = length_octets_of_all (take i ns) in
    let taken : length (take i ns) ≡ i = grind (arith, common_steps) in
    omega (arith, so_far, taken, h)

-- all of the numbers
pub length_octets_all_taken : (ns : List ℕ) (i : ℕ) → length ns ≤ i → length (octets_of_all (take i ns)) ≡ 8 * length ns
length_octets_all_taken ns i h =
    let all = length_octets_of_all (take i ns) in
    let taken : length (take i ns) ≡ length ns = grind (arith, common_steps) in
    omega (arith, all, taken)
