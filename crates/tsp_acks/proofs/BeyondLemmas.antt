-- The peers that come after one, and the rows that are left for them.
use Rattle.std.proofs.Common.{ap, arith, length-append, ◌≡◌, ℕ, zero, suc, ◌+◌, ◌≤◌, ◌<◌, nat_lt, Bool, true, false, List, [], ◌∷◌, ◌++◌, map, length, cond}
use Rattle.std.proofs.Common.{Option, Some, None, refl, slice_index_or}
use Rattle.std.specs.List.{All, AllPairs, Contains, filter}
use Rattle.std.proofs.lemmas.{Bool.ltb-true, Bool.lt-ltb, List.length-map, List.get_or-map, List.Kept.AllPairs-from_increasing}
use Rattle.tsp_rules.specs.Values.{Placed, PeerId, Port}
use Rattle.tsp_base.specs.Words.{Past, Performs, Row, for_each, IsAscending}
use Rattle.tsp_base.proofs.PerformsLemmas.{Performs_then, Performs_nothing}
use Rattle.tsp_sends.specs.Repeating.{IsAfter}

-- whether a peer comes after this one
abbrev pub is_after : Option PeerId → PeerId → Bool
is_after None p = true
is_after (Some a) p = nat_lt a.0 p.0

-- the peers that come after this one
abbrev pub beyond : Option PeerId → List PeerId → List PeerId
beyond after ps = filter (is_after after) ps

after_true : (after : Option PeerId) (p : PeerId) → IsAfter after p → is_after after p ≡ true
after_true None p h = refl
after_true (Some a) p h = lt-ltb a.0 p.0 h

true_after : (after : Option PeerId) (p : PeerId) → is_after after p ≡ true → IsAfter after p
true_after None p e = tt
true_after (Some a) p e = ltb-true a.0 p.0 e

-- a peer that isn't below p doesn't come before it
not_after : (p q : PeerId) → q.0 < p.0 + 1 → is_after (Some p) q ≡ false
not_after p q h = by_test (nat_lt p.0 q.0) refl where
  by_test : (b : Bool) → nat_lt p.0 q.0 ≡ b → b ≡ false
  by_test true e = absurd (omega (arith, ltb-true p.0 q.0 e))
  by_test false e = refl

after_later : (after : Option PeerId) (p q : PeerId) → IsAfter after p → p.0 < q.0 → IsAfter after q
after_later None p q h l = tt
after_later (Some a) p q h l = omega arith

-- each peer is below all later ones
abbrev Rises : List PeerId → Type 0
Rises [] = Unit {0}
Rises (p ∷ ps) = All (λ q. p.0 < q.0) ps × Rises ps

Rises_pairs : (ps : List PeerId) → AllPairs (λ x y. x < y) (map (λ (p : PeerId). p.0) ps) → Rises ps
Rises_pairs [] up = tt
Rises_pairs (p ∷ ps) up = (
  λ k d l. let e = get_or-map (λ (q : PeerId). q.0) ps k d 0 l in omega (
    arith,
    up zero (suc k) 0 (omega arith)
        (omega (arith, length-map ps (λ (q : PeerId). q.0))),
  ),
  Rises_pairs ps (λ i j d l within. up (suc i) (suc j) d (omega arith) (omega arith)),
)

pub Rises_ascending : (ps : List PeerId) → IsAscending ps → Rises ps
Rises_ascending ps up = Rises_pairs ps (AllPairs-from_increasing (map (λ (p : PeerId). p.0) ps) up)

-- all peers come after none
pub beyond_none : (ps : List PeerId) → beyond None ps ≡ ps
beyond_none [] = refl
beyond_none (p ∷ ps) = ap (λ qs. p ∷ qs) (beyond_none ps)

-- all of these come after a peer
beyond_all : (after : Option PeerId) (p : PeerId) (ps : List PeerId) → IsAfter after p → All (λ q. p.0 < q.0) ps → beyond after ps ≡ ps
beyond_all after p [] h above = refl
beyond_all after p (q ∷ ps) h above =
    let here : is_after after q ≡ true = after_true after q (after_later after p q h (above 0 q (omega arith))) in
    rw here (ap (λ qs. q ∷ qs) (beyond_all after p ps h (λ k d l. above (suc k) d (omega arith))))

beyond_above : (p : PeerId) (ps : List PeerId) → All (λ q. p.0 < q.0) ps → beyond (Some p) ps ≡ ps
beyond_above p [] above = refl
beyond_above p (q ∷ ps) above =
    let here : is_after (Some p) q ≡ true = after_true (Some p) q (above 0 q (omega arith)) in
    rw here (ap (λ qs. q ∷ qs) (beyond_above p ps (λ k d l. above (suc k) d (omega arith))))

-- of the peers after one: those before p, p itself, and those after p
pub record Splits (after : Option PeerId) (p : PeerId) (ps : List PeerId) : Type 0 where
  pub between : List PeerId
  pub is : beyond after ps ≡ between ++ p ∷ beyond (Some p) ps
  pub passed : All (λ q. IsAfter after q × q.0 < p.0) between

Splits_before : (after : Option PeerId) (p q : PeerId) (ps : List PeerId) → q.0 < p.0 → Splits after p ps → Splits after p (q ∷ ps)
Splits_before after p q ps l s = by_test (is_after after q) refl where
  later : is_after (Some p) q ≡ false
  later = not_after p q (omega arith)

  by_test : (b : Bool) → is_after after q ≡ b → Splits after p (q ∷ ps)
  by_test true e = record {
    between = q ∷ s.between;
    is = rw (e, later) (ap (λ qs. q ∷ qs) s.is);
    passed = λ k d within. at k d within;
  } where
    at : All (λ q. IsAfter after q × q.0 < p.0) (q ∷ s.between)
    at zero d within = (true_after after q e, l)
    at (suc k) d within = s.passed k d (omega arith)
  by_test false e = record { between = s.between; is = rw (e, later) s.is; passed = s.passed }

splits_at : (after : Option PeerId) (p : PeerId) (ps : List PeerId) (k : ℕ) → Rises ps → IsAfter after p → k < length ps → slice_index_or ps k p ≡ p →
    Splits after p ps
splits_at after p [] k r h within found = absurd (omega arith)
splits_at after p (q ∷ ps) zero r h within found =
    let here : is_after after q ≡ true = after_true after q (rw found h) in
    let past : is_after (Some p) q ≡ false = not_after p q (omega (arith, ap (λ (t : PeerId). t.0) found)) in
    let above : All (λ t. p.0 < t.0) ps = λ k d l. rw (← found) (r.0 k d l) in
    record {
      between = [];
      is = rw (here, past, beyond_all after p ps h above, beyond_above p ps above) (ap (λ t. t ∷ ps) found);
      passed = λ k d l. absurd (omega arith);
    }
splits_at after p (q ∷ ps) (suc k) r h within found =
    Splits_before after p q ps (omega (arith, r.0 k p (omega arith), ap (λ (t : PeerId). t.0) found)) (splits_at after p ps k r.1 h (omega arith) found)

pub Splits_peer : (after : Option PeerId) (p : PeerId) (ps : List PeerId) → IsAscending ps → IsAfter after p → Contains ps p → Splits after p ps
Splits_peer after p ps up h c = splits_at after p ps c.0 (Rises_ascending ps up) h c.1 c.2

-- fewer peers come after p
pub Splits_fewer : (after : Option PeerId) (p : PeerId) (ps : List PeerId) → Splits after p ps → length (beyond (Some p) ps) + 1 ≤ length (beyond after ps)
Splits_fewer after p ps s = rw s.is (omega (arith, length-append s.between (p ∷ beyond (Some p) ps)))

module _ {S T U : Type 0} (fits : Past → S → Type 0) (mid_fits : Past → T → Type 0) (last_fits : Past → U → Type 0) (r : PeerId →
    Row) (x : ℕ) (port : Port) (first : S) (middle : T) (last : U) (old mid new : List Placed) where
  -- rows that do nothing stand before the others
  after_idle : (idle ps : List PeerId) → All (λ q. Performs fits fits (r q) x port first first old old) idle →
      Performs fits last_fits (for_each r ps) x port first last old new → Performs fits last_fits (for_each r (idle ++ ps)) x port first last old new
  unfolding for_each
  after_idle [] ps k d = d
  after_idle (q ∷ idle) ps k d = Performs_then (k 0 q (omega arith)) (after_idle idle ps (λ i e l. k (suc i) e (omega arith)) d)

  -- what is left after a peer: nothing for those before p, then the row of p, then what is left after p
  pub for_each_beyond : (after : Option PeerId) (p : PeerId) (ps : List PeerId) → Splits after p ps →
      ((q : PeerId) → IsAfter after q → q.0 < p.0 → Performs fits fits (r q) x port first first old old) →
      Performs fits mid_fits (r p) x port first middle old mid
      → Performs mid_fits last_fits (for_each r (beyond (Some p) ps)) x port middle last mid new →
      Performs fits last_fits (for_each r (beyond after ps)) x port first last old new
  unfolding for_each
  for_each_beyond after p ps s idle here rest = rw s.is (after_idle s.between (p ∷ beyond (Some p) ps) (λ k d l. let w = s.passed k d l in
      idle _ w.0 w.1) (Performs_then here rest))

-- nothing is left
pub for_each_idle : {S : Type 0} (fits : Past → S → Type 0) (r : PeerId → Row) (x : ℕ) (port : Port) (state : S) (old : List Placed) (after : Option PeerId)
    (ps : List PeerId) →
    ((q : PeerId) → IsAfter after q → Performs fits fits (r q) x port state state old old) →
    Performs fits fits (for_each r (beyond after ps)) x port state state old old
unfolding for_each
for_each_idle fits r x port state old after [] idle = Performs_nothing
for_each_idle fits r x port state old after (q ∷ ps) idle = by_test (is_after after q) refl (for_each_idle fits r x port state old after ps idle) where
  by_test : (b : Bool) → is_after after q ≡ b → Performs fits fits (for_each r (beyond after ps)) x port state state old old →
      Performs fits fits (for_each r (cond b (q ∷ beyond after ps) (beyond after ps))) x port state state old old
  by_test true e d = Performs_then (idle q (true_after after q e)) d
  by_test false e d = d

-- no peer is left
pub for_each_none : {S : Type 0} (fits : Past → S → Type 0) (r : PeerId → Row) (x : ℕ) (port : Port) (state : S) (old : List Placed) (ps : List PeerId) →
    length ps ≡ zero → Performs fits fits (for_each r ps) x port state state old old
unfolding for_each
for_each_none fits r x port state old [] e = Performs_nothing
for_each_none fits r x port state old (p ∷ ps) e = absurd (omega arith)
