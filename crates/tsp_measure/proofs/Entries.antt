-- Lemmas on the table of a master's peers.
use Rattle.std.proofs.Common.{◌≡◌, ◌≢◌, ℕ, zero, suc, ◌+◌, ◌<◌, ◌≤◌, ◌==◌, Bool, true, false, if◌then◌else◌, List, [], ◌∷◌, ◌++◌, length, map, take, drop}
use Rattle.std.proofs.Common.{append_assoc, append-nil, Result, Ok, Err, get_or, set, eqb-true, eq-eqb, refl, sym, ◌∙◌, ap, arith}
use Rattle.std.specs.{List.Contains, List.Sorted.IsBinarySearchResult, List.Sorted.IsSearchInRange, Ordering.nat_cmp}
use Rattle.std.proofs.{Math.Seq.take-suc, Math.Seq.take-append_seam, lemmas.Bool.ne_eqb}
use Rattle.std.proofs.lemmas.List.{length-map, length-take-le, get_or-map, get_or_at, set_at, take_all, drop_more, map-append}
use Rattle.tsp_base.specs.{Words.IsPeers, declared.place.PeerId.PeerId}
use Rattle.tsp_base.proofs.AscendingLemmas.{Rise, Rise_of, Rise_rest, Parts_absent, Parts_searched, equal_means}
use Rattle.tsp_measure.specs.declared.entry.{Change.Change, Entry.Entry}
use Rattle.tsp_measure.specs.declared.entry.Change.TheVariants.{Join, Measure, Post, Begin, Acknowledge}
use Rattle.tsp_measure.specs.Slaves.{idle_entry, peers_of, entry_of, changed_by, Changes, ChangesAll, IsEntryPlace}

-- the peers' numbers rise along the entries
abbrev pub Rising : List Entry → Type 0
Rising es = Rise (λ (e : Entry). e.peer.0) es

pub Rising_peers : (es : List Entry) → IsPeers (peers_of es) → Rising es
Rising_peers es up = Rise_of (λ (e : Entry). e.peer) es up.ascending

-- the entry at a place is its peer's
pub entry_of_at : (es : List Entry) (i : ℕ) (d : Entry) (p : PeerId) → Rising es → i < length es → (get_or es i d).peer.0 ≡ p.0 → entry_of es p ≡ get_or es i d
entry_of_at [] i d p r h e = absurd (omega arith)
entry_of_at (x ∷ es) zero d p r h e = rw (eq-eqb x.peer.0 p.0 e) refl
entry_of_at (x ∷ es) (suc i) d p r h e =
    let before : x.peer.0 < (get_or es i d).peer.0 = r.at 0 (suc i) d (omega arith) h in
    rw (ne_eqb x.peer.0 p.0 (λ same. omega arith)) (entry_of_at es i d p (Rise_rest x es r) (omega arith) e)

-- nothing is known of a peer without an entry
pub entry_of_absent : (es : List Entry) (p : PeerId) → ((k : ℕ) (d : Entry) → k < length es → (get_or es k d).peer.0 ≢ p.0) → entry_of es p ≡ idle_entry p
entry_of_absent [] p h = refl
entry_of_absent (x ∷ es) p h = rw (ne_eqb x.peer.0 p.0 (h 0 x (omega arith))) (entry_of_absent es p (λ k d l. h (suc k) d (omega arith)))

-- an entry is put in its peer's place
entry_of_set : (es : List Entry) (i : ℕ) (d : Entry) (p : PeerId) (new : Entry) (q : PeerId) → Rising es → i < length es → (get_or es i d).peer.0 ≡ p.0 →
    new.peer.0 ≡ p.0
    → entry_of (set es i new) q ≡ (if p.0 == q.0 then new else entry_of es q)
entry_of_set [] i d p new q r h e f = absurd (omega arith)
entry_of_set (x ∷ es) zero d p new q r h e f =
    ap (λ n. if n == q.0 then new else entry_of es q) f ∙ by_test (p.0 == q.0) ∙ sym
    (ap (λ n. if p.0 == q.0 then new else (if n == q.0 then x else entry_of es q)) e) where
      by_test : (b : Bool) → (if b then new else entry_of es q) ≡ (if b then new else (if b then x else entry_of es q))
      by_test true = refl
      by_test false = refl
entry_of_set (x ∷ es) (suc i) d p new q r h e f =
    let before : x.peer.0 < (get_or es i d).peer.0 = r.at 0 (suc i) d (omega arith) h in
    let other : x.peer.0 ≢ p.0 = λ same. omega arith in
    rw (entry_of_set es i d p new q (Rise_rest x es r) (omega arith) e f) (by_test (x.peer.0 == q.0) refl other) where
      by_test : (b : Bool) → (x.peer.0 == q.0) ≡ b → x.peer.0 ≢ p.0 → (if b then x else (if p.0 == q.0 then new else entry_of es q)) ≡
          (if p.0 == q.0 then new else (if b then x else entry_of es q))
      by_test true g n = let o : (p.0 == q.0) ≡ false = ne_eqb p.0 q.0 (λ same. n (eqb-true x.peer.0 q.0 g ∙ sym same)) in rw o refl
      by_test false g n = refl

-- the entry that was found, changed, is put back
pub Changes-put : (f : Entry → Entry) (es new : List Entry) (p : PeerId) (i : ℕ) (x : Entry) → IsPeers (peers_of es) → IsEntryPlace p es (Ok i) → x ≡
    get_or es i x → (f x).peer ≡ x.peer → new ≡ set es i (f x) → Changes p f es new
Changes-put f es new p i x up place is same put q = rw put (
    let r = Rising_peers es up in
    let here : (get_or es i x).peer.0 ≡ p.0 = place.1 x in
    let own : x.peer.0 ≡ p.0 = ap (λ (e : Entry). e.peer.0) is ∙ here in
    entry_of_set es i x p (f x) q r place.0 here (ap (λ (t : PeerId). t.0) same ∙ own)
    ∙ by_test (p.0 == q.0) refl (λ e. is ∙ sym (entry_of_at es i x q r place.0 (here ∙ e)))) where
      by_test : (b : Bool) → (p.0 == q.0) ≡ b → (p.0 ≡ q.0 → x ≡ entry_of es q) → (if b then f x else entry_of es q) ≡
          (if b then f (entry_of es q) else entry_of es q)
      by_test true e k = ap f (k (eqb-true p.0 q.0 e))
      by_test false e k = refl

-- a change that leaves a peer without an entry alone
pub Changes_absent : (f : Entry → Entry) (es : List Entry) (p : PeerId) (i : ℕ) → IsEntryPlace p es (Err i) → f (idle_entry p) ≡ idle_entry p →
    Changes p f es es
Changes_absent f es p i place same q = by_test (p.0 == q.0) refl where
  by_test : (b : Bool) → (p.0 == q.0) ≡ b → entry_of es q ≡ (if b then f (entry_of es q) else entry_of es q)
  by_test true e =
      let it : p ≡ q = ap (λ n. record { 0 = n }) (eqb-true p.0 q.0 e) in
      let none : entry_of es q ≡ idle_entry p = ap (entry_of es) (sym it) ∙ entry_of_absent es p place in
      none ∙ sym same ∙ ap f (sym none)
  by_test false e = refl

-- the peers stay where an entry keeps its peer
pub peers_of_set : (es : List Entry) (i : ℕ) (d new : Entry) → (i < length es → new.peer ≡ (get_or es i d).peer) → peers_of (set es i new) ≡ peers_of es
peers_of_set [] i d new e = refl
peers_of_set (x ∷ es) zero d new e = ap (λ p. p ∷ peers_of es) (e (omega arith))
peers_of_set (x ∷ es) (suc i) d new e = ap (λ ps. x.peer ∷ ps) (peers_of_set es i d new (λ h. e (omega arith)))

-- what a binary search by the peers' numbers finds
pub IsPlaceOf_searched : (es : List Entry) (p : PeerId) (r : Result ℕ ℕ) → Rising es → IsSearchInRange r (length es) →
    IsBinarySearchResult (λ (e : Entry). nat_cmp e.peer.0 p.0) es r → IsEntryPlace p es r
IsPlaceOf_searched es p (Ok i) rise bound found = (bound, λ d. equal_means (get_or es i d).peer.0 p.0 (found d))
IsPlaceOf_searched es p (Err i) rise bound found =
    let number = λ (e : Entry). e.peer.0 in
    Parts_absent number p.0 es i (Parts_searched number p.0 es i rise bound found)

-- a search finds the entry of a peer that has one
pub always_found : (es : List Entry) (p : PeerId) (i : ℕ) → Contains (peers_of es) p → IsEntryPlace p es (Err i) → ⊥
always_found es p i c place =
    let inside : c.0 < length es = omega (arith, c.1, length-map es (λ (e : Entry). e.peer)) in
    let here : (get_or es c.0 (idle_entry p)).peer ≡ p = sym (get_or-map (λ (e : Entry). e.peer) es c.0 (idle_entry p) p inside) ∙ c.2 in
    place c.0 (idle_entry p) inside (ap (λ (q : PeerId). q.0) here)

-- entries without anything known
pub peers_of_idle : (ps : List PeerId) → peers_of (map idle_entry ps) ≡ ps
peers_of_idle [] = refl
peers_of_idle (p ∷ ps) = ap (λ qs. p ∷ qs) (peers_of_idle ps)

pub entry_of_idle : (ps : List PeerId) (q : PeerId) → entry_of (map idle_entry ps) q ≡ idle_entry q
entry_of_idle [] q = refl
entry_of_idle (p ∷ ps) q = by_test (p.0 == q.0) refl (entry_of_idle ps q) where
  by_test : (b : Bool) → (p.0 == q.0) ≡ b → entry_of (map idle_entry ps) q ≡ idle_entry q → (if b then idle_entry p else entry_of (map idle_entry ps) q) ≡
      idle_entry q
  by_test true e rest = let it : p ≡ q = ap (λ n. record { 0 = n }) (eqb-true p.0 q.0 e) in ap idle_entry it
  by_test false e rest = rest

-- each entry is changed
pub peers_of_map : (f : Entry → Entry) → ((e : Entry) → (f e).peer ≡ e.peer) → (es : List Entry) → peers_of (map f es) ≡ peers_of es
peers_of_map f same [] = refl
peers_of_map f same (x ∷ es) = ap (λ p. p ∷ peers_of (map f es)) (same x) ∙ ap (λ ps. x.peer ∷ ps) (peers_of_map f same es)

pub ChangesAll_map : (f : Entry → Entry) → ((e : Entry) → (f e).peer ≡ e.peer) → ((p : PeerId) → f (idle_entry p) ≡ idle_entry p) → (es : List Entry) →
    ChangesAll f es (map f es)
ChangesAll_map f same idle [] q = sym (idle q)
ChangesAll_map f same idle (x ∷ es) q =
    ap (λ n. if n == q.0 then f x else entry_of (map f es) q) (ap (λ (p : PeerId). p.0) (same x)) ∙
    by_test (x.peer.0 == q.0) (ChangesAll_map f same idle es q) where
      by_test : (b : Bool) → entry_of (map f es) q ≡ f (entry_of es q) → (if b then f x else entry_of (map f es) q) ≡ f (if b then x else entry_of es q)
      by_test true rest = refl
      by_test false rest = rest

-- a slice is written back whole
pub written : (n : ℕ) (new items : List Entry) → n ≡ length new → take n (new ++ drop (length new) items) ≡ new
written n new items e = ap (λ k. take k (new ++ drop (length new) items)) e ∙ take-append_seam new (drop (length new) items)

drop_past : (xs : List Entry) (n : ℕ) → length xs ≤ n → drop n xs ≡ []
drop_past [] zero h = refl
drop_past [] (suc n) h = refl
drop_past (x ∷ xs) zero h = absurd (omega arith)
drop_past (x ∷ xs) (suc n) h = drop_past xs n (omega arith)

-- one entry more is changed
pub mapped_more : (f : Entry → Entry) (xs now : List Entry) (i : ℕ) (d : Entry) → i < length xs → now ≡ map f (take i xs) ++ drop i xs →
    set now i (f (get_or now i d)) ≡ map f (take (i + 1) xs) ++ drop (i + 1) xs
mapped_more f xs now i d h e =
    let front : length (map f (take i xs)) ≡ i = length-map (take i xs) f ∙ length-take-le i xs (omega arith) in
    let rest : drop i xs ≡ get_or xs i d ∷ drop (i + 1) xs = drop_more xs i d h in
    let is : now ≡ map f (take i xs) ++ get_or xs i d ∷ drop (i + 1) xs = e ∙ ap (λ ys. map f (take i xs) ++ ys) rest in
    let here : get_or now i d ≡ get_or xs i d = ap (λ ys. get_or ys i d) is ∙ get_or_at (map f (take i xs)) (get_or xs i d) (drop (i + 1) xs) d i front in
    let one : i + 1 ≡ suc i = omega arith in
    let more : map f (take (i + 1) xs) ≡ map f (take i xs) ++ f (get_or xs i d) ∷ [] = ap (λ k. map f (take k xs)) one ∙ ap (map f) (take-suc xs i d h) ∙
    map-append f (take i xs) (get_or xs i d ∷ []) in
    ap (λ x. set now i (f x)) here ∙ ap (λ ys. set ys i (f (get_or xs i d))) is ∙
    set_at (map f (take i xs)) (get_or xs i d) (drop (i + 1) xs) (f (get_or xs i d)) i front
    ∙ sym (ap (λ ys. ys ++ drop (i + 1) xs) more ∙ append_assoc (map f (take i xs)) (f (get_or xs i d) ∷ []) (drop (i + 1) xs))

-- all entries are changed
pub mapped_all : (f : Entry → Entry) (xs now : List Entry) (i : ℕ) → length xs ≤ i → now ≡ map f (take i xs) ++ drop i xs → now ≡ map f xs
mapped_all f xs now i h e = e ∙ ap (λ ys. map f (take i xs) ++ ys) (drop_past xs i h) ∙ append-nil (map f (take i xs)) ∙ ap (map f) (take_all i xs h)

-- a change is of the same peer's entry
pub changed_by_peer : (change : Change) (e : Entry) → (changed_by change e).peer ≡ e.peer
changed_by_peer Join e = refl
changed_by_peer Measure e = refl
changed_by_peer (Post x) e = refl
changed_by_peer (Begin x number) e = refl
changed_by_peer Acknowledge e = refl
