-- Lists whose elements' numbers rise, and what a binary search by these numbers finds.
use Rattle.std.proofs.Common.{◌≡◌, ◌≢◌, ℕ, suc, ◌<◌, ◌≤◌, List, ◌∷◌, length, map, Err, get_or, ap, arith, inl, inr}
use Rattle.std.specs.{List.Sorted.IsBinarySearchResult, List.Sorted.IsStrictlyIncreasing, Ordering.nat_cmp, Ordering.ordering_index}
use Rattle.std.specs.declared.cmp.Ordering.TheVariants.{Less, Equal, Greater}
use Rattle.std.proofs.lemmas.{Bool.cases_lt, Bool.Decides.nat_tests, List.length-map, List.get_or-map, List.Kept.AllPairs-from_increasing}
use Rattle.tsp_base.specs.{Words.IsAscending, declared.place.PeerId.PeerId}

-- of two places the later one has the greater number
pub record Rise {A : Type 0} (number : A → ℕ) (xs : List A) : Type 0 where
  pub at : (i j : ℕ) (d : A) → i < j → j < length xs → number (get_or xs i d) < number (get_or xs j d)

pub Rise_increasing : {A : Type 0} (number : A → ℕ) (xs : List A) → IsStrictlyIncreasing (map number xs) → Rise number xs
Rise_increasing number xs up = record {
  at = λ i j d l h.
      let low = get_or-map number xs i d 0 (omega arith) in
      let high = get_or-map number xs j d 0 h in
      omega (arith, AllPairs-from_increasing (map number xs) up i j 0 l (omega (arith, length-map xs number)));
}

pub Rise_numbers : (xs : List ℕ) → IsStrictlyIncreasing xs → Rise (λ (n : ℕ). n) xs
Rise_numbers xs up = record { at = λ i j d l h. AllPairs-from_increasing xs up i j d l h }

-- the numbers of ascending peers rise
pub Rise_peers : (ps : List PeerId) → IsAscending ps → Rise (λ (p : PeerId). p.0) ps
Rise_peers ps up = Rise_increasing (λ (p : PeerId). p.0) ps up

-- and so do those of the elements that they belong to
pub Rise_of : {A : Type 0} (peer : A → PeerId) (xs : List A) → IsAscending (map peer xs) → Rise (λ (x : A). (peer x).0) xs
Rise_of peer xs up =
    let rise = Rise_peers (map peer xs) up in
    record {
      at = λ i j d l h.
          let low = ap (λ (p : PeerId). p.0) (get_or-map peer xs i d (peer d) (omega arith)) in
          let high = ap (λ (p : PeerId). p.0) (get_or-map peer xs j d (peer d) h) in
          omega (arith, low, high, rise.at i j (peer d) l (omega (arith, length-map xs peer)));
    }

pub Rise_rest : {A : Type 0} {number : A → ℕ} (x : A) (xs : List A) → Rise number (x ∷ xs) → Rise number xs
Rise_rest x xs r = record { at = λ i j d l h. r.at (suc i) (suc j) d (omega arith) (omega arith) }

pub never_falls : {A : Type 0} (number : A → ℕ) (xs : List A) → Rise number xs → (i j : ℕ) (d : A) → i ≤ j → j < length xs →
    number (get_or xs i d) ≤ number (get_or xs j d)
never_falls number xs r i j d l h = elim (cases_lt i j) [
  | inl below ↦ omega (arith, r.at i j d below h)
  | inr above ↦ let e : i ≡ j = omega arith in rw e (omega arith)
]

pub equal_means : (a b : ℕ) → nat_cmp a b ≡ Equal → a ≡ b
equal_means a b e = grind (arith, nat_tests)

less_means : (a b : ℕ) → nat_cmp a b ≡ Less → a < b
less_means a b e = grind (arith, nat_tests)

greater_means : (a b : ℕ) → nat_cmp a b ≡ Greater → b < a
greater_means a b e = grind (arith, nat_tests)

index_rises : (a b p : ℕ) → a ≤ b → ordering_index (nat_cmp a p) ≤ ordering_index (nat_cmp b p)
index_rises a b p h = grind (arith, nat_tests)

-- a search that finds nothing tells how many numbers are below the one that was looked for
pub record Parts {A : Type 0} (number : A → ℕ) (n : ℕ) (xs : List A) (i : ℕ) : Type 0 where
  pub below : (k : ℕ) (d : A) → k < i → number (get_or xs k d) < n
  pub above : (k : ℕ) (d : A) → i ≤ k → k < length xs → n < number (get_or xs k d)

pub Parts_searched : {A : Type 0} (number : A → ℕ) (n : ℕ) (xs : List A) (i : ℕ) → Rise number xs → i ≤ length xs →
    IsBinarySearchResult (λ (x : A). nat_cmp (number x) n) xs (Err i) → Parts number n xs i
Parts_searched number n xs i rise bound found =
    let parted = found (λ a b d l h. index_rises (number (get_or xs a d)) (number (get_or xs b d)) n (never_falls number xs rise a b d l h)) in
    record {
      below = λ k d l. less_means (number (get_or xs k d)) n (parted.0 k d (omega arith) l);
      above = λ k d l h. greater_means (number (get_or xs k d)) n (parted.1 k d l h);
    }

-- so it isn't there
pub Parts_absent : {A : Type 0} (number : A → ℕ) (n : ℕ) (xs : List A) (i : ℕ) → Parts number n xs i → (k : ℕ) (d : A) → k < length xs →
    number (get_or xs k d) ≢ n
Parts_absent number n xs i parts k d h = λ e. elim (cases_lt k i) [
  | inl below ↦ absurd (omega (arith, parts.below k d below))
  | inr above ↦ absurd (omega (arith, parts.above k d above h))
]
