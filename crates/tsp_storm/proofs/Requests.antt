-- The octets of a stranger's request.
use Rattle.std.proofs.Common.{arith, ◌≡◌, ℕ, zero, suc, ◌<◌, ◌^◌, List, [], ◌∷◌, ◌++◌, replicate}
use Rattle.std.{proofs.lemmas.Nat.mod_below, specs.Int.w64, specs.Int.to_be_bytes}
use Rattle.tsp_rules.specs.Values.{Stamp, Good, Request}
use Rattle.tsp_codec.{proofs.TakenOf.taken_of_canon, specs.Numbers.octet_at, specs.Taken.taken_of}
use Rattle.tsp_script.specs.Storms.{request_octets}

record AreOctets (l : List ℕ) : Type 0 where
  each : (i : ℕ) → octet_at l i < 256

are_none : AreOctets []
are_none = record { each = λ i. omega arith }

are_more : (n : ℕ) (l : List ℕ) → n < 256 → AreOctets l → AreOctets (n ∷ l)
are_more n l small are = record { each = by_place } where
  by_place : (i : ℕ) → octet_at (n ∷ l) i < 256
  by_place zero = small
  by_place (suc i) = are.each i

are_both : (l m : List ℕ) → AreOctets l → AreOctets m → AreOctets (l ++ m)
are_both [] m left right = right
are_both (n ∷ l) m left right = are_more n (l ++ m) (left.each 0) (are_both l m (record { each = λ i. left.each (suc i) }) right)

-- those of a number
are_number : (n : ℕ) → AreOctets (to_be_bytes w64 n)
are_number n =
    are_more _ _ (mod_below _ 256 (omega arith)) (are_more _ _ (mod_below _ 256 (omega arith))
    (are_more _ _ (mod_below _ 256 (omega arith)) (are_more _ _ (mod_below _ 256 (omega arith))
    (are_more _ _ (mod_below _ 256 (omega arith)) (are_more _ _ (mod_below _ 256 (omega arith))
    (are_more _ _ (mod_below _ 256 (omega arith)) (are_more _ _ (mod_below _ 256 (omega arith)) are_none)))))))

are_zeros : (n : ℕ) → AreOctets (replicate n 0)
are_zeros zero = are_none
are_zeros (suc n) = are_more 0 (replicate n 0) (omega arith) (are_zeros n)

-- each is below 256
pub request_octets_holds : (word i : ℕ) → octet_at (request_octets word) i < 256
request_octets_holds word =
    let front : AreOctets (128 ∷ 1 ∷ 0 ∷ 0 ∷ []) = are_more 128 _ (omega arith) (are_more 1 _ (omega arith)
    (are_more 0 _ (omega arith) (are_more 0 _ (omega arith) are_none))) in
    (are_both _ (replicate 8 0) (are_both _ (to_be_bytes w64 0) (are_both (128 ∷ 1 ∷ 0 ∷ 0 ∷ []) (to_be_bytes w64 word) front (are_number word)) (are_number 0))
    (are_zeros 8)).each

-- and what is read from them is the request
pub request_read : (word : ℕ) → word < 2 ^ 64 → taken_of (request_octets word) ≡ Good (Stamp (Request word 0))
request_read word small = taken_of_canon (Stamp (Request word 0)) (small, omega arith)
