-- Who is among some peers.
use Rattle.std.proofs.Common.{sym, ap, arith, get_or, eq-eqb, eqb-true, ◌≡◌, ◌≢◌, ◌==◌, ◌||◌, Bool, ℕ, zero, suc, ◌<◌, true, false, List, [], ◌∷◌, length}
use Rattle.std.proofs.Common.{Result, Ok, Err, is_ok, refl}
use Rattle.std.specs.{List.Contains, List.Sorted.IsBinarySearchResult, List.Sorted.IsSearchInRange, Ordering.nat_cmp}
use Rattle.std.proofs.lemmas.Bool.{false≢true, ne_eqb, or_right}
use Rattle.tsp_rules.specs.Values.{PeerId}
use Rattle.tsp_base.specs.Words.{is_among, IsAscending}
use Rattle.tsp_base.proofs.AscendingLemmas.{Rise_peers, Parts_absent, Parts_searched, equal_means}

-- a peer at a place is among them, and one at no place isn't
is_among_at : (p : PeerId) (ps : List PeerId) (i : ℕ) (d : PeerId) → i < length ps → (get_or ps i d).0 ≡ p.0 → is_among p ps ≡ true
is_among_at p [] i d h e = absurd (omega arith)
is_among_at p (q ∷ ps) zero d h e = let same : (q.0 == p.0) ≡ true = eq-eqb q.0 p.0 e in rw same refl
is_among_at p (q ∷ ps) (suc i) d h e = rw (is_among_at p ps i d (omega arith) e) (or_right (q.0 == p.0) true refl)

is_among_nowhere : (p : PeerId) (ps : List PeerId) → ((i : ℕ) (d : PeerId) → i < length ps → (get_or ps i d).0 ≢ p.0) → is_among p ps ≡ false
is_among_nowhere p [] n = refl
is_among_nowhere p (q ∷ ps) n =
    let other : (q.0 == p.0) ≡ false = ne_eqb q.0 p.0 (n zero q (omega arith)) in
    rw other (is_among_nowhere p ps (λ i d h. n (suc i) d (omega arith)))

-- a binary search finds who is among them
pub is_among_searched : (p : PeerId) (ps : List PeerId) (r : Result ℕ ℕ) → IsAscending ps → IsSearchInRange r (length ps) →
    IsBinarySearchResult (λ (q : PeerId). nat_cmp q.0 p.0) ps r → is_ok r ≡ is_among p ps
is_among_searched p ps (Ok i) up bound found = sym (is_among_at p ps i p bound (equal_means (get_or ps i p).0 p.0 (found p)))
is_among_searched p ps (Err i) up bound found =
    let number = λ (q : PeerId). q.0 in
    let parts = Parts_searched number p.0 ps i (Rise_peers ps up) bound found in
    sym (is_among_nowhere p ps (Parts_absent number p.0 ps i parts))

-- who is among some peers has a place there
pub Contains_among : (p : PeerId) (ps : List PeerId) → is_among p ps ≡ true → Contains ps p
Contains_among p [] e = absurd (false≢true e)
Contains_among p (q ∷ rest) e = by_test (q.0 == p.0) refl e (Contains_among p rest) where
  by_test : (b : Bool) → (q.0 == p.0) ≡ b → (b || is_among p rest) ≡ true → (is_among p rest ≡ true → Contains rest p) → Contains (q ∷ rest) p
  by_test true same e k = (zero, omega arith, ap (λ n. record { 0 = n }) (eqb-true q.0 p.0 same))
  by_test false same e k = let c = k e in (suc c.0, omega (arith, c.1), c.2)

pub among_Contains : (p : PeerId) (ps : List PeerId) → Contains ps p → is_among p ps ≡ true
among_Contains p ps c = is_among_at p ps c.0 p c.1 (ap (λ (q : PeerId). q.0) c.2)
