-- Marks of peers that ascend.
use Rattle.std.proofs.Common.{◌∙◌, ap, sym, arith, eq-eqb, get_or, ◌≡◌, ℕ, zero, suc, ◌<◌, ◌==◌, ◌||◌, Bool, true, false, if◌then◌else◌, List, [], ◌∷◌, ◌++◌}
use Rattle.std.proofs.Common.{length, take, set, replicate, cond, Result, Ok, Err, refl}
use Rattle.std.specs.{List.Contains, List.filter, List.Sorted.IsBinarySearchResult, List.Sorted.IsSearchInRange, Ordering.nat_cmp}
use Rattle.std.proofs.lemmas.Bool.{false≢true, ne_eqb}
use Rattle.tsp_rules.specs.Values.{PeerId}
use Rattle.tsp_base.specs.Words.{is_among, IsPeers}
use Rattle.tsp_base.proofs.AscendingLemmas.{Rise, Rise_rest, equal_means}
use Rattle.tsp_acks.proofs.PeerLemmas.{among_Contains, is_among_searched}
use Rattle.tsp_resolve.specs.Marked.{marked}

-- without marks nobody is marked
pub marked_none : (ps : List PeerId) (n : ℕ) → marked ps (replicate n false) ≡ []
marked_none [] n = refl
marked_none (p ∷ ps) zero = refl
marked_none (p ∷ ps) (suc n) = marked_none ps n

-- a peer below all of these isn't marked among them
marked_below : (p : PeerId) (ps : List PeerId) (marks : List Bool) → ((k : ℕ) (d : PeerId) → k < length ps → p.0 < (get_or ps k d).0) →
    is_among p (marked ps marks) ≡ false
marked_below p [] marks above = refl
marked_below p (q ∷ ps) [] above = refl
marked_below p (q ∷ ps) (b ∷ marks) above =
    by_test b (ne_eqb q.0 p.0 (λ e. omega (arith, above 0 q (omega arith)))) (marked_below p ps marks (λ k d l. above (suc k) d (omega arith))) where
      by_test : (b : Bool) → (q.0 == p.0) ≡ false → is_among p (marked ps marks) ≡ false → is_among p (if b then q ∷ marked ps marks else marked ps marks) ≡
          false
      by_test true other rest = rw other rest
      by_test false other rest = rest

-- a peer is marked exactly where its place is
pub marked_at : (ps : List PeerId) (marks : List Bool) (i : ℕ) (d p : PeerId) → Rise (λ (p : PeerId). p.0) ps → length marks ≡ length ps → i < length ps →
    (get_or ps i d).0 ≡ p.0 → is_among p (marked ps marks) ≡ get_or marks i false
marked_at [] marks i d p r m h e = absurd (omega arith)
marked_at (x ∷ ps) [] i d p r m h e = absurd (omega arith)
marked_at (x ∷ ps) (b ∷ marks) zero d p r m h e =
    by_test b (eq-eqb x.0 p.0 e) (marked_below p ps marks (λ k q l. omega (arith, e, r.at 0 (suc k) q (omega arith) (omega arith)))) where
      by_test : (b : Bool) → (x.0 == p.0) ≡ true → is_among p (marked ps marks) ≡ false → is_among p (if b then x ∷ marked ps marks else marked ps marks) ≡ b
      by_test true same below = rw same refl
      by_test false same below = below
marked_at (x ∷ ps) (b ∷ marks) (suc i) d p r m h e =
    by_test b (ne_eqb x.0 p.0 (λ same. omega (arith, e, r.at 0 (suc i) d (omega arith) h))) (marked_at ps marks i d p (Rise_rest x ps r) (omega arith)
    (omega arith) e) where
      by_test : (b : Bool) → (x.0 == p.0) ≡ false → is_among p (marked ps marks) ≡ get_or marks i false →
          is_among p (if b then x ∷ marked ps marks else marked ps marks) ≡ get_or marks i false
      by_test true other rest = rw other rest
      by_test false other rest = rest

or_again : (a b : Bool) → (a || b) ≡ (a || (a || b))
or_again true b = refl
or_again false b = refl

or_turned : (a b c : Bool) → (a || (b || c)) ≡ (b || (a || c))
or_turned true true c = refl
or_turned true false c = refl
or_turned false b c = refl

-- a peer's place is marked
pub marked_set : (ps : List PeerId) (marks : List Bool) (i : ℕ) (p q : PeerId) → length marks ≡ length ps → i < length ps → get_or ps i p ≡ p →
    is_among q (marked ps (set marks i true)) ≡ ((p.0 == q.0) || is_among q (marked ps marks))
marked_set [] marks i p q m h e = absurd (omega arith)
marked_set (x ∷ ps) [] i p q m h e = absurd (omega arith)
marked_set (x ∷ ps) (b ∷ marks) zero p q m h e = ap (λ (t : PeerId). (t.0 == q.0) || is_among q (marked ps marks)) e ∙
    by_test b (ap (λ (t : PeerId). t.0 == q.0) e) where
      by_test : (b : Bool) → (x.0 == q.0) ≡ (p.0 == q.0) → ((p.0 == q.0) || is_among q (marked ps marks)) ≡
          ((p.0 == q.0) || is_among q (if b then x ∷ marked ps marks else marked ps marks))
      by_test true same = or_again (p.0 == q.0) (is_among q (marked ps marks)) ∙ ap (λ t. (p.0 == q.0) || (t || is_among q (marked ps marks))) (sym same)
      by_test false same = refl
marked_set (x ∷ ps) (b ∷ marks) (suc i) p q m h e = by_test b (marked_set ps marks i p q (omega arith) (omega arith) e) where
  by_test : (b : Bool) → is_among q (marked ps (set marks i true)) ≡ ((p.0 == q.0) || is_among q (marked ps marks)) →
      is_among q (if b then x ∷ marked ps (set marks i true) else marked ps (set marks i true)) ≡
      ((p.0 == q.0) || is_among q (if b then x ∷ marked ps marks else marked ps marks))
  by_test true rest = ap (λ t. (x.0 == q.0) || t) rest ∙ or_turned (x.0 == q.0) (p.0 == q.0) (is_among q (marked ps marks))
  by_test false rest = rest

-- the marked ones of one peer more
pub marked_more : (ps : List PeerId) (marks : List Bool) (n : ℕ) (p : PeerId) → length marks ≡ length ps → n < length ps → get_or ps n p ≡ p →
    marked (take (suc n) ps) marks ≡ marked (take n ps) marks ++ (if get_or marks n false then p ∷ [] else [])
marked_more [] marks n p m h e = absurd (omega arith)
marked_more (x ∷ ps) [] n p m h e = absurd (omega arith)
marked_more (x ∷ ps) (b ∷ marks) zero p m h e = ap (λ t. if b then t ∷ [] else []) e
marked_more (x ∷ ps) (b ∷ marks) (suc n) p m h e = by_test b (marked_more ps marks n p (omega arith) (omega arith) e) where
  by_test : (b : Bool) → marked (take (suc n) ps) marks ≡ marked (take n ps) marks ++ (if get_or marks n false then p ∷ [] else []) →
      (if b then x ∷ marked (take (suc n) ps) marks else marked (take (suc n) ps) marks) ≡
      (if b then x ∷ marked (take n ps) marks else marked (take n ps) marks) ++ (if get_or marks n false then p ∷ [] else [])
  by_test true rest = ap (λ ts. x ∷ ts) rest
  by_test false rest = rest

-- a test that is each peer's mark keeps the marked ones
filter_marked : (test : PeerId → Bool) (ps : List PeerId) (marks : List Bool) → length marks ≡ length ps →
    ((k : ℕ) (d : PeerId) → k < length ps → test (get_or ps k d) ≡ get_or marks k false) → filter test ps ≡ marked ps marks
filter_marked test [] marks m e = refl
filter_marked test (x ∷ ps) [] m e = absurd (omega arith)
filter_marked test (x ∷ ps) (b ∷ marks) m e =
    ap (λ c. cond c (x ∷ filter test ps) (filter test ps)) (e 0 x (omega arith)) ∙
    by_test b (filter_marked test ps marks (omega arith) (λ k d l. e (suc k) d (omega arith))) where
      by_test : (b : Bool) → filter test ps ≡ marked ps marks → cond b (x ∷ filter test ps) (filter test ps) ≡
          (if b then x ∷ marked ps marks else marked ps marks)
      by_test true rest = ap (λ ts. x ∷ ts) rest
      by_test false rest = rest

-- the peers that are marked, in their order
pub marked_filter : (ps : List PeerId) (marks : List Bool) → Rise (λ (p : PeerId). p.0) ps → length marks ≡ length ps →
    filter (λ p. is_among p (marked ps marks)) ps ≡ marked ps marks
marked_filter ps marks r m = filter_marked (λ p. is_among p (marked ps marks)) ps marks m (λ k d l. marked_at ps marks k d (get_or ps k d) r m l refl)

-- a search finds the place of a peer
abbrev pub IsSearched : PeerId → List PeerId → Result ℕ ℕ → Type 0
IsSearched p ps (Ok i) = (i < length ps) × ((d : PeerId) → get_or ps i d ≡ p)
IsSearched p ps (Err i) = ⊥

pub always_searched : (p : PeerId) (ps : List PeerId) (r : Result ℕ ℕ) → IsPeers ps → Contains ps p → IsSearchInRange r (length ps) →
    IsBinarySearchResult (λ (q : PeerId). nat_cmp q.0 p.0) ps r → IsSearched p ps r
always_searched p ps (Ok i) up there bound found = (bound, λ d. ap (λ n. record { 0 = n }) (equal_means (get_or ps i d).0 p.0 (found d)))
always_searched p ps (Err i) up there bound found = false≢true (is_among_searched p ps (Err i) up.ascending bound found ∙ among_Contains p ps there)
