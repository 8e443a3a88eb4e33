-- Lemmas on what is measured with a peer.
use Rattle.std.proofs.Common.{◌≡◌, ◌∙◌, refl, ap, sym, ℕ, zero, suc, ◌<◌, ◌≤◌, ◌==◌, cond, Bool, true, false, List, [], ◌∷◌, ◌++◌, length, get_or, set, arith}
use Rattle.std.proofs.Common.{MatchResult, MatchOption, Result, Ok, Err, inl, inr, ◌⊎◌}
use Rattle.std.proofs.lemmas.List.Elements.{All-from_get_or, All-contains}
use Rattle.std.proofs.{Math.ListN.length-set, lemmas.Bool.cases_lt, lemmas.Bool.Decides.nat_tests, lemmas.List.get_or-set_same}
use Rattle.std.specs.{List.All, List.Contains, Result.result_ok}
use Rattle.tsp_measure.specs.{Measures.Measured, Measures.nothing_measured, Peers.at_peer}
use Rattle.tsp_base.proofs.AscendingLemmas.{Rise, Rise_rest}

same_test : (q p : ℕ) → q ≡ p → (q == p) ≡ true
same_test q p e = grind (arith, nat_tests)

other_test : (q p : ℕ) → (q ≡ p → ⊥) → (q == p) ≡ false
other_test q p e = grind (arith, nat_tests)

-- the peer at a place
pub at_peer-found : (peers : List ℕ) (measured : List Measured) (p i : ℕ) (d : Measured) → Rise (λ (n : ℕ). n) peers → length measured ≤ length peers →
    i < length measured → get_or peers i 0 ≡ p → at_peer peers measured p ≡ get_or measured i d
at_peer-found [] measured p i d up e h k = absurd (omega arith)
at_peer-found (q ∷ peers) [] p i d up e h k = absurd (omega arith)
at_peer-found (q ∷ peers) (m ∷ measured) p zero d up e h k = rw (same_test q p k) refl
at_peer-found (q ∷ peers) (m ∷ measured) p (suc i) d up e h k =
    let inside : suc i < length (q ∷ peers) = omega arith in
    let lt : q < get_or peers i 0 = up.at 0 (suc i) 0 (omega arith) inside in
    rw (other_test q p (λ w. omega (arith, lt, k, w))) (at_peer-found peers measured p i d (Rise_rest q peers up) (omega arith) (omega arith) k)

-- what is put at one peer's place leaves the others
pub at_peer-others : (peers : List ℕ) (measured : List Measured) (p q i : ℕ) (m : Measured) → i < length peers → get_or peers i 0 ≡ p → (q ≡ p → ⊥) →
    at_peer peers (set measured i m) q ≡ at_peer peers measured q
at_peer-others [] measured p q i m h k ne = absurd (omega arith)
at_peer-others (r ∷ peers) [] p q i m h k ne = refl
at_peer-others (r ∷ peers) (x ∷ measured) p q zero m h k ne = rw (other_test r q (λ w. ne (sym w ∙ k))) refl
at_peer-others (r ∷ peers) (x ∷ measured) p q (suc i) m h k ne = ap (λ (y : Measured). cond (r == q) x y) (at_peer-others peers measured p q i m (omega arith) k
    ne)

-- a number that isn't among the peers
pub at_peer_missing : (peers : List ℕ) (measured : List Measured) (p : ℕ) → (Contains peers p → ⊥) → at_peer peers measured p ≡ nothing_measured
at_peer_missing [] measured p none = refl
at_peer_missing (q ∷ peers) [] p none = refl
at_peer_missing (q ∷ peers) (m ∷ measured) p none =
    rw (other_test q p (λ e. none (0, omega arith, e))) (at_peer_missing peers measured p (λ c. none (suc c.0, omega (arith, c.1), c.2)))

either_way : (t : Bool) (x y z : Measured) → x ≡ z → y ≡ z → cond t x y ≡ z
either_way true x y z e f = e
either_way false x y z e f = f

-- nothing is measured with any peer
pub at_peer_nothing : (peers : List ℕ) (p : ℕ) → at_peer peers [] p ≡ nothing_measured
at_peer_nothing [] p = refl
at_peer_nothing (q ∷ peers) p = refl

-- one place more, with which nothing is measured
pub at_peer_more : (peers : List ℕ) (measured : List Measured) (p : ℕ) → at_peer peers (measured ++ nothing_measured ∷ []) p ≡ at_peer peers measured p
at_peer_more [] measured p = refl
at_peer_more (q ∷ peers) [] p = either_way (q == p) nothing_measured (at_peer peers [] p) nothing_measured refl (at_peer_nothing peers p)
at_peer_more (q ∷ peers) (m ∷ measured) p = ap (λ (y : Measured). cond (q == p) m y) (at_peer_more peers measured p)

-- a peer whose place is past the list's end
pub at_peer_past : (peers : List ℕ) (measured : List Measured) (p i : ℕ) → Rise (λ (n : ℕ). n) peers → length measured ≤ i → i < length peers →
    get_or peers i 0 ≡ p → at_peer peers measured p ≡ nothing_measured
at_peer_past [] measured p i up e h k = refl
at_peer_past (q ∷ peers) [] p i up e h k = refl
at_peer_past (q ∷ peers) (m ∷ measured) p zero up e h k = absurd (omega arith)
at_peer_past (q ∷ peers) (m ∷ measured) p (suc i) up e h k =
    let lt : q < get_or peers i 0 = up.at 0 (suc i) 0 (omega arith) h in
    rw (other_test q p (λ w. omega (arith, lt, k, w))) (at_peer_past peers measured p i (Rise_rest q peers up) (omega arith) (omega arith) k)

misses_by : (xs : List ℕ) (x i k : ℕ) → ((k : ℕ) → k < i → get_or xs k 0 < x) → ((k : ℕ) → i ≤ k → k < length xs → x < get_or xs k 0) → k < length xs →
    (k < i) ⊎ (i ≤ k) → get_or xs k 0 ≡ x → ⊥
misses_by xs x i k low high h (inl lt) e = let a = low k lt in omega arith
misses_by xs x i k low high h (inr le) e = let a = high k le h in omega arith

-- what a binary search says of a number
pub found_or_missing : (xs : List ℕ) (x : ℕ) (r : Result ℕ ℕ)
    → MatchResult r (λ i. (i < length xs) × (get_or xs i 0 ≡ x)) (λ i. (i ≤ length xs) × ((k : ℕ) → k < i → get_or xs k 0 < x) ×
    ((k : ℕ) → i ≤ k → k < length xs → x < get_or xs k 0))
    → MatchOption (result_ok r) (Contains xs x → ⊥) (λ i. (i < length xs) × (get_or xs i 0 ≡ x))
found_or_missing xs x (Ok i) h = h
found_or_missing xs x (Err i) h = λ c.
    let none : All (λ y. y ≡ x → ⊥) xs = All-from_get_or (λ y. y ≡ x → ⊥) xs 0 (λ k lt. misses_by xs x i k h.1 h.2 lt (cases_lt k i)) in
    All-contains (λ y. y ≡ x → ⊥) xs x none c refl

-- what is put at a peer's place is what is measured with it
pub at_peer-put : (peers : List ℕ) (measured : List Measured) (p i : ℕ) (m : Measured) → Rise (λ (n : ℕ). n) peers → length measured ≤ length peers →
    i < length measured → get_or peers i 0 ≡ p → at_peer peers (set measured i m) p ≡ m
at_peer-put peers measured p i m up e h k =
    let long : length (set measured i m) ≡ length measured = length-set measured i m in
    at_peer-found peers (set measured i m) p i m up (omega arith) (omega arith) k ∙ get_or-set_same measured i m m h
