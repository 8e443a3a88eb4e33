-- Where a peer's date is, and how it changes.
use Rattle.std.proofs.Common.{◌≡◌, ℕ, zero, suc, ◌+◌, ◌<◌, ◌==◌, nat_lt, not, cond, get_or, set, Bool, true, false, if◌then◌else◌, ◌||◌, List, [], ◌∷◌, length}
use Rattle.std.proofs.Common.{map, Option, Some, None, refl, sym, ◌∙◌, ap, arith, eqb-true, position}
use Rattle.std.{proofs.lemmas.Bool.ltb-true, proofs.lemmas.Bool.lt-ltb, proofs.lemmas.Bool.false≢true, specs.List.position_or_len}
use Rattle.tsp_rules.specs.Values.{PeerId}
use Rattle.tsp_base.specs.Words.{is_among, Dating}
use Rattle.tsp_date.specs.{declared.dates.Dated.Dated, Dates.dating_in, Dates.idle, Dates.last_in, Dates.peers_of}

-- the place of a peer; where it isn't known, the number of peers
abbrev pub at : PeerId → List Dated → ℕ
at p ds = position_or_len (λ (d : Dated). d.peer.0 == p.0) ds

some_case : (t : Bool) (n i : ℕ) → cond t (Some n) None ≡ Some i → (t ≡ true) × (n ≡ i)
some_case true n i e = (refl, cc)
some_case false n i e = let bad : ⊥ = cc in absurd bad

none_case : (t : Bool) (n : ℕ) → cond t (Some n) None ≡ None → t ≡ false
none_case true n e = let bad : ⊥ = cc in absurd bad
none_case false n e = refl

-- the place that is found
pub found : (p : PeerId) (ds : List Dated) (i : ℕ) → position (λ (d : Dated). d.peer.0 == p.0) ds ≡ Some i → (at p ds < length ds) × (at p ds ≡ i)
found p ds i e = let s = some_case (nat_lt (at p ds) (length ds)) (at p ds) i e in (ltb-true (at p ds) (length ds) s.0, s.1)

missing : (p : PeerId) (ds : List Dated) → position (λ (d : Dated). d.peer.0 == p.0) ds ≡ None → at p ds < length ds → ⊥
missing p ds e h = false≢true (sym (none_case (nat_lt (at p ds) (length ds)) (at p ds) e) ∙ lt-ltb (at p ds) (length ds) h)

-- the date at a peer's place is its last one
pub last_at : (ds : List Dated) (p : PeerId) (d : Dated) → at p ds < length ds → last_in ds p ≡ dating_in (get_or ds (at p ds) d).last
last_at [] p d h = absurd (omega arith)
last_at (e ∷ ds) p d h = by_test (e.peer.0 == p.0) (at p ds) h (last_at ds p d) where
  by_test : (b : Bool) (n : ℕ) → cond (not b) (1 + n) 0 < length (e ∷ ds) → (n < length ds → last_in ds p ≡ dating_in (get_or ds n d).last) →
      (if b then dating_in e.last else last_in ds p) ≡ dating_in (get_or (e ∷ ds) (cond (not b) (1 + n) 0) d).last
  by_test true n h k = refl
  by_test false n h k = let one : 1 + n ≡ suc n = omega arith in rw one (k (omega arith))

-- a peer that isn't known has no date
pub last_none : (ds : List Dated) (p : PeerId) → position (λ (d : Dated). d.peer.0 == p.0) ds ≡ None → last_in ds p ≡ None
last_none ds p e = absent ds (missing p ds e) where
  absent : (ds : List Dated) → (at p ds < length ds → ⊥) → last_in ds p ≡ None
  absent [] n = refl
  absent (e ∷ ds) n = by_test (e.peer.0 == p.0) (at p ds) n (absent ds) where
    by_test : (b : Bool) (k : ℕ) → (cond (not b) (1 + k) 0 < length (e ∷ ds) → ⊥) → ((k < length ds → ⊥) → last_in ds p ≡ None) →
        (if b then dating_in e.last else last_in ds p) ≡ None
    by_test true k n r = absurd (n (omega arith))
    by_test false k n r = r (λ h. n (omega arith))

-- a peer that is among them is known
pub always_known : (ds : List Dated) (p : PeerId) → is_among p (peers_of ds) ≡ true → at p ds < length ds
always_known [] p e = absurd (false≢true e)
always_known (d ∷ ds) p e = by_test (d.peer.0 == p.0) (at p ds) e (always_known ds p) where
  by_test : (b : Bool) (n : ℕ) → (b || is_among p (peers_of ds)) ≡ true → (is_among p (peers_of ds) ≡ true → n < length ds) →
      cond (not b) (1 + n) 0 < length (d ∷ ds)
  by_test true n e k = omega arith
  by_test false n e k = let h = k e in omega (arith, h)

pub never_missing : (ds : List Dated) (p : PeerId) → is_among p (peers_of ds) ≡ true → position (λ (d : Dated). d.peer.0 == p.0) ds ≡ None → ⊥
never_missing ds p e m = missing p ds m (always_known ds p e)

-- a date is put in its peer's place
pub peer_at : (ds : List Dated) (p : PeerId) (d : Dated) → at p ds < length ds → (get_or ds (at p ds) d).peer.0 ≡ p.0
peer_at [] p d h = absurd (omega arith)
peer_at (e ∷ ds) p d h = by_test (e.peer.0 == p.0) refl (at p ds) h (peer_at ds p d) where
  by_test : (b : Bool) → (e.peer.0 == p.0) ≡ b → (n : ℕ) → cond (not b) (1 + n) 0 < length (e ∷ ds) → (n < length ds → (get_or ds n d).peer.0 ≡ p.0) →
      (get_or (e ∷ ds) (cond (not b) (1 + n) 0) d).peer.0 ≡ p.0
  by_test true t n h k = eqb-true e.peer.0 p.0 t
  by_test false t n h k = let one : 1 + n ≡ suc n = omega arith in rw one (k (omega arith))

pub last_set : (ds : List Dated) (p : PeerId) (new : Dated) (q : PeerId) → at p ds < length ds → new.peer.0 ≡ p.0 →
    last_in (set ds (at p ds) new) q ≡ (if p.0 == q.0 then dating_in new.last else last_in ds q)
last_set [] p new q h f = absurd (omega arith)
last_set (e ∷ ds) p new q h f = by_test (e.peer.0 == p.0) refl (at p ds) h (λ l. last_set ds p new q l f) where
  same : (b : Bool) (l : Option Dating) → (if b then dating_in new.last else l) ≡ (if b then dating_in new.last else (if b then dating_in e.last else l))
  same true l = refl
  same false l = refl

  other : (b : Bool) → (e.peer.0 == q.0) ≡ b → (e.peer.0 == p.0) ≡ false → (l : Option Dating) →
      (if b then dating_in e.last else (if p.0 == q.0 then dating_in new.last else l)) ≡
      (if p.0 == q.0 then dating_in new.last else (if b then dating_in e.last else l))
  other true t n l =
      let apart : (p.0 == q.0) ≡ false = sym (ap (λ k. p.0 == k) (eqb-true e.peer.0 q.0 t)) ∙ turned (e.peer.0 == p.0) n in
      rw apart refl where
        turned : (b : Bool) → (e.peer.0 == p.0) ≡ false → (p.0 == e.peer.0) ≡ false
        turned b k = by_case (p.0 == e.peer.0) refl where
          by_case : (c : Bool) → (p.0 == e.peer.0) ≡ c → c ≡ false
          by_case true m = let is : p.0 ≡ e.peer.0 = eqb-true p.0 e.peer.0 m in absurd (false≢true (sym k ∙ ap (λ n. e.peer.0 == n) is ∙
              sym (ap (λ n. n == e.peer.0) is) ∙ m))
          by_case false m = refl
  other false t n l = refl

  by_test : (b : Bool) → (e.peer.0 == p.0) ≡ b → (n : ℕ) → cond (not b) (1 + n) 0 < length (e ∷ ds) →
      (n < length ds → last_in (set ds n new) q ≡ (if p.0 == q.0 then dating_in new.last else last_in ds q)) →
      last_in (set (e ∷ ds) (cond (not b) (1 + n) 0) new) q ≡ (if p.0 == q.0 then dating_in new.last else last_in (e ∷ ds) q)
  by_test true t n h k =
      let is : e.peer.0 ≡ p.0 = eqb-true e.peer.0 p.0 t in
      ap (λ m. if m == q.0 then dating_in new.last else last_in ds q) f ∙ same (p.0 == q.0) (last_in ds q)
      ∙ ap (λ m. if p.0 == q.0 then dating_in new.last else (if m == q.0 then dating_in e.last else last_in ds q)) (sym is)
  by_test false t n h k =
      let one : 1 + n ≡ suc n = omega arith in
      rw one (ap (λ l. if e.peer.0 == q.0 then dating_in e.last else l) (k (omega arith)) ∙ other (e.peer.0 == q.0) refl t (last_in ds q))

pub peers_set : (ds : List Dated) (i : ℕ) (d new : Dated) → (i < length ds → new.peer ≡ (get_or ds i d).peer) → peers_of (set ds i new) ≡ peers_of ds
peers_set [] i d new e = refl
peers_set (x ∷ ds) zero d new e = ap (λ p. p ∷ peers_of ds) (e (omega arith))
peers_set (x ∷ ds) (suc i) d new e = ap (λ ps. x.peer ∷ ps) (peers_set ds i d new (λ h. e (omega arith)))

-- peers without dates
pub peers_idle : (ps : List PeerId) → peers_of (map idle ps) ≡ ps
peers_idle [] = refl
peers_idle (p ∷ ps) = ap (λ qs. p ∷ qs) (peers_idle ps)

pub last_idle : (ps : List PeerId) (q : PeerId) → last_in (map idle ps) q ≡ None
last_idle [] q = refl
last_idle (p ∷ ps) q = by_test (p.0 == q.0) (last_idle ps q) where
  by_test : (b : Bool) → last_in (map idle ps) q ≡ None → (if b then None else last_in (map idle ps) q) ≡ None
  by_test true e = refl
  by_test false e = e
