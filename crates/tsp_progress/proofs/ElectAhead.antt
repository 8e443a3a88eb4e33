-- When Elect rings, the port's last backing was its delay ago or longer.
use Rattle.std.proofs.Common.{sym, ap, subst, arith, true≢false, ◌∙◌, ◌≡◌, ◌≢◌, ◌≤◌, ◌⊎◌, inl, inr, ℕ, ◌+◌, ◌==◌, ◌||◌, ◌&&◌, Bool, true, false, List, [], ◌∷◌}
use Rattle.std.proofs.Common.{Option, None, Some, refl}
use Rattle.tsp_rules.specs.Values.{Boot, Become, Arm, Ring, Late, Back, Quit, Alarm, Elect, Window, PeerId, Port}
use Rattle.tsp_rules.specs.Guards.{delay}
use Rattle.tsp_base.specs.Words.{Acts, Deed, Did, Held, Line, Seen, Here, Elsewhere, Within, armed, armed_after, held, held_after, is_shared, plain}
use Rattle.tsp_base.specs.Words.{seen_as, tick_of, view, word, word_after}
use Rattle.tsp_progress.specs.AlarmsFit.{AlarmFits, AlarmsFit, Arms, ArmFits, BackNext, Manner, NextFits, NextTo, asks_next, owes_next, stands_by}
use Rattle.tsp_progress.specs.AlarmsFit.{stands_now}
use Rattle.tsp_progress.proofs.InTimeProof.{none_some, value_of}
use Rattle.tsp_progress.proofs.StandsProof.{Rising}

-- no deed of another port is shared
abbrev pub Unshared : List Seen → Type 0
Unshared [] = Unit {0}
Unshared (Here d ∷ before) = Unshared before
Unshared (Elsewhere d ∷ before) = (is_shared d.deed ≡ false) × Unshared before

pub unshared : (q : Port) (lines : List Line) → Unshared (view q lines)
unshared q [] = tt
unshared q (l ∷ before) = by_own ((l.port.0 == q.0) || is_shared l.did.deed) refl (unshared q before) where
  by_own : (b : Bool) → ((l.port.0 == q.0) || is_shared l.did.deed) ≡ b → Unshared (view q before) → Unshared (seen_as b l.did ∷ view q before)
  by_own true e h = h
  by_own false e h = (other (l.port.0 == q.0) (is_shared l.did.deed) e, h) where
    other : (x y : Bool) → (x || y) ≡ false → y ≡ false
    other true y e = absurd (true≢false e)
    other false y e = e

-- whether the newest deed is a backing
abbrev backs : Deed → Bool
backs (Acts (Back p)) = true
backs _ = false

abbrev backs_now : List Seen → Bool
backs_now [] = false
backs_now (Here d ∷ before) = backs d.deed
backs_now (Elsewhere d ∷ before) = false

-- whether the port stands for election, and armed nothing yet
abbrev standing : List Seen → Bool
standing [] = false
standing (Here d ∷ before) = stands_by d.deed || (backs d.deed && stands_now before)
standing (Elsewhere d ∷ before) = false

-- when Elect is armed it is for the delay after the last backing, or later
record Waits (x w : ℕ) (h : Held) (elect : Option ℕ) (backing stood : Bool) : Type 0 where
  pub back_le : (b : ℕ) (p : PeerId) → h.back ≡ Some (b, p) → b ≤ x
  pub backs : (at : ℕ) → elect ≡ Some at → backing ≡ false → (b : ℕ) (p : PeerId) → h.back ≡ Some (b, p) → b + delay w ≤ at
  pub stands : stood ≡ true → elect ≡ None

-- at a port
abbrev Elects : List Seen → Type 0
Elects seen = Waits (tick_of (plain seen)) (word (plain seen)) (held seen) (armed seen).elect (backs_now seen) (standing seen)

abbrev backed_at : ℕ → PeerId → Option (ℕ × PeerId)
backed_at b p = Some (b, p)

back_of : {b c : ℕ} {p q : PeerId} → backed_at b p ≡ backed_at c q → b ≡ c
back_of {b} e = ap (λ (o : Option (ℕ × PeerId)). tick o b) e where
  tick : Option (ℕ × PeerId) → ℕ → ℕ
  tick None other = other
  tick (Some k) other = k.0

no_back : {A : Type 0} {b : ℕ} {p : PeerId} → None ≡ backed_at b p → A
no_back e = let bad : ⊥ = cc in absurd bad

module _ (d : Did) (before : List Seen) (rise : tick_of (plain before) ≤ d.tick) (inv : Elects before) where
  abbrev W : ℕ
  W = word (plain before)

  -- after this deed
  abbrev After : Deed → ℕ → Type 0
  After deed w = Waits d.tick w (held_after deed d.tick (held before)) (armed_after deed (armed before)).elect (backs deed)
      (stands_by deed || (backs deed && stands_now before))

  back_le_holds : (b : ℕ) (p : PeerId) → (held before).back ≡ Some (b, p) → b ≤ d.tick
  back_le_holds b p e = let le = inv.back_le b p e in omega (arith, le, rise)

  arms_elect : (at : ℕ) → ArmFits Elect d before at → After (Acts (Arm Elect at)) W
  arms_elect at f = record {
    back_le = back_le_holds;
    backs = λ to e n b p is. let same : at ≡ to = value_of e in let le = back_le_holds b p is in omega (arith, f, same, le);
    stands = λ e. absurd (true≢false (sym e));
  }

  -- a deed that leaves Elect alone, and isn't a backing
  kept : (elect : Option ℕ) → elect ≡ (armed before).elect → (h : Held) → h.back ≡ (held before).back → backs_now before ≡ false →
      Waits d.tick W h elect false false
  kept elect same h back n = record {
    back_le = λ b p e. back_le_holds b p (sym back ∙ e);
    backs = λ at e o b p is. inv.backs at (sym same ∙ e) n b p (sym back ∙ is);
    stands = λ e. absurd (true≢false (sym e));
  }

  -- a deed that turns Elect off
  off : (w : ℕ) (h : Held) → ((b : ℕ) (p : PeerId) → h.back ≡ Some (b, p) → b ≤ d.tick) → (backing stood : Bool) → Waits d.tick w h None backing stood
  off w h back backing stood = record {
    back_le = back;
    backs = λ at e n. none_some refl e;
    stands = λ e. refl;
  }

  arms : (a : Alarm) (at : ℕ) → ArmFits a d before at → backs_now before ≡ false → After (Acts (Arm a at)) W
  arms Elect at f n = arms_elect at f
  arms _ at f n = kept _ refl (held before) refl n

  rings : (a : Alarm) → backs_now before ≡ false → After (Acts (Ring a)) W
  rings Elect n = off W (held before) back_le_holds false false
  rings _ n = kept _ refl (held before) refl n

  lates : (a : Alarm) → backs_now before ≡ false → After (Acts (Late a)) W
  lates Elect n = off W (held before) back_le_holds false false
  lates _ n = kept _ refl (held before) refl n

  backed : (p : PeerId) → (stood : Bool) → stands_now before ≡ stood → After (Acts (Back p)) W
  backed p stood e = record {
    back_le = λ b q is. let same : d.tick ≡ b = back_of is in omega (arith, same);
    backs = λ at is n. absurd (true≢false n);
    stands = λ is. inv.stands (stands-standing before is);
  } where
    stands-standing : (seen : List Seen) → stands_now seen ≡ true → standing seen ≡ true
    stands-standing [] e = absurd (true≢false (sym e))
    stands-standing (Here k ∷ older) e = rw e refl
    stands-standing (Elsewhere k ∷ older) e = absurd (true≢false (sym e))

  -- where no backing waits for its alarm
  by_deed_holds : (deed : Deed) → AlarmFits deed d before → backs_now before ≡ false → After deed (word_after deed d.step.cause W)
  by_deed_holds (Acts Boot) f n = off _ _ (λ b p e. no_back e) false false
  by_deed_holds (Acts (Become r)) f n = off W (held before) back_le_holds false _
  by_deed_holds (Acts (Arm a at)) f n = arms a at f n
  by_deed_holds (Acts (Ring a)) f n = rings a n
  by_deed_holds (Acts (Late a)) f n = lates a n
  by_deed_holds (Acts (Back p)) f n = backed p (stands_now before) refl
  by_deed_holds _ f n = kept _ refl _ refl n

  -- where Window is armed since the port stood for election
  windows : (at : ℕ) → standing before ≡ true → After (Acts (Arm Window at)) W
  windows at stood = record {
    back_le = back_le_holds;
    backs = λ to e. none_some (inv.stands stood) e;
    stands = λ e. absurd (true≢false (sym e));
  }

-- what comes after a backing
after_back : (m : Manner) (last : Deed) (x : ℕ) (older : List Seen) (next : Deed) → backs last ≡ true → NextFits m last x older next → Arms Elect next ⊎
    (Arms Window next × ((stands_by last || (backs last && stands_now older)) ≡ true))
after_back m (Acts (Back p)) x older next e f = by_stands (stands_now older) refl f where
  by_stands : (b : Bool) → stands_now older ≡ b → BackNext b next → Arms Elect next ⊎ (Arms Window next × (stands_now older ≡ true))
  by_stands true s k = inr (k, s)
  by_stands false s k = inl k
after_back m _ x older next e f = absurd (true≢false (sym e))

after_backing : (m : Manner) (before : List Seen) (next : Deed) → backs_now before ≡ true → NextTo m before next → Arms Elect next ⊎
    (Arms Window next × (standing before ≡ true))
after_backing m [] next e f = absurd (true≢false (sym e))
after_backing m (Elsewhere k ∷ older) next e f = absurd (true≢false (sym e))
after_backing m (Here k ∷ older) next e f = after_back m k.deed k.tick older next e f

step : (m : Manner) (d : Did) (before : List Seen) → tick_of (plain before) ≤ d.tick → Elects before → NextTo m before d.deed → AlarmFits d.deed d before →
    Elects (Here d ∷ before)
step m d before rise inv next fits = by_back (backs_now before) refl where
  by_back : (b : Bool) → backs_now before ≡ b → After d before rise inv d.deed (word_after d.deed d.step.cause (word (plain before)))
  by_back false e = by_deed_holds d before rise inv d.deed fits e
  by_back true e = elim (after_backing m before d.deed e next) [
    | inl k ↦ subst (λ deed. After d before rise inv deed (word_after deed d.step.cause (word (plain before)))) (sym k.1)
        (arms_elect d before rise inv k.0 (subst (λ deed. AlarmFits deed d before) k.1 fits))
    | inr k ↦ subst (λ deed. After d before rise inv deed (word_after deed d.step.cause (word (plain before)))) (sym k.0.1)
        (windows d before rise inv k.0.0 k.1)
  ]

-- a deed that asks nothing is no backing
asks_back : (deed : Deed) (x : ℕ) (older : List Seen) → asks_next deed x older ≡ false → backs deed ≡ false
asks_back (Acts (Back p)) x older e = absurd (true≢false e)
asks_back _ x older e = refl

not_back : (seen : List Seen) → owes_next seen ≡ false → backs_now seen ≡ false
not_back [] e = refl
not_back (Here d ∷ before) e = asks_back d.deed d.tick before e
not_back (Elsewhere d ∷ before) e = refl

-- a deed of another port leaves the word alone
word_aside : (d : Did) (w : ℕ) → is_shared d.deed ≡ false → word_after d.deed d.step.cause w ≡ w
word_aside d w e = by_deed d.deed e where
  by_deed : (deed : Deed) → is_shared deed ≡ false → word_after deed d.step.cause w ≡ w
  by_deed (Acts Boot) n = absurd (true≢false n)
  by_deed _ n = refl

elects : (m : Manner) (seen : List Seen) → AlarmsFit m seen → Rising seen → Unshared seen → Elects seen
elects m [] f r u = record {
  back_le = λ b p e. no_back e;
  backs = λ at e n. none_some refl e;
  stands = λ e. refl;
}
elects m (Here d ∷ before) f r u = step m d before r.0 (elects m before f.1.1 r.1 u) f.1.0 f.0
elects m (Elsewhere d ∷ before) f r u =
    subst (λ w. Waits d.tick w (held before) (armed before).elect false false) (sym (word_aside d (word (plain before)) u.0))
    (kept d before r.0 (elects m before f.1 r.1 u.1) _ refl (held before) refl (not_back before f.0))

-- a deed on an alarm comes after no backing
ring_free : (m : Manner) (before : List Seen) (a : Alarm) → NextTo m before (Acts (Ring a)) → backs_now before ≡ false
ring_free m before a next = by_back (backs_now before) refl where
  by_back : (b : Bool) → backs_now before ≡ b → backs_now before ≡ false
  by_back false e = e
  by_back true e = elim (after_backing m before (Acts (Ring a)) e next) [
    | inl k ↦ let is = k.1 in let bad : ⊥ = cc in absurd bad
    | inr k ↦ let is = k.0.1 in let bad : ⊥ = cc in absurd bad
  ]

-- when Elect rings, the last backing was the delay ago, or longer
pub rung_late : (m : Manner) (r : Did) (older : List Seen) → r.deed ≡ Acts (Ring Elect) → AlarmsFit m (Here r ∷ older) → Rising older → Unshared older →
    (b : ℕ) (p : PeerId) → (held older).back ≡ Some (b, p) → b + delay (word (plain older)) ≤ r.tick
rung_late m r older is f rise u b p back =
    let e = elects m older f.1.1 rise u in
    let ring = subst (λ deed. AlarmFits deed r older) is f.0 in
    let free = ring_free m older Elect (subst (λ deed. NextTo m older deed) is f.1.0) in
    let due = ring.due in
    let le = e.backs ring.at ring.armed_is free b p back in
    omega (arith, le, due)

-- a backing was at the port's tick, or before
pub backed_before : (m : Manner) (seen : List Seen) → AlarmsFit m seen → Rising seen → Unshared seen → (b : ℕ) (p : PeerId) → (held seen).back ≡ Some (b, p) →
    b ≤ tick_of (plain seen)
backed_before m seen f rise u b p back = (elects m seen f rise u).back_le b p back

-- a later backing in the same life is no earlier
pub record BackedSince (b : ℕ) (seen : List Seen) : Type 0 where
  pub at : ℕ
  pub of_peer : PeerId
  pub back_is : (held seen).back ≡ Some (at, of_peer)
  pub since : b ≤ at

pub backed_later : (early : List Seen) (b : ℕ) → BackedSince b early → (late : List Seen) → Within early late → Rising late → b ≤ tick_of (plain early) →
    ((d : Did) (before : List Seen) → Within (Here d ∷ before) late → Within early before → d.deed ≢ Acts Boot) →
    BackedSince b late × (b ≤ tick_of (plain late))
backed_later early b k [] w up low calm = (subst (BackedSince b) w k, subst (λ z. b ≤ tick_of (plain z)) w low)
backed_later early b k (s ∷ before) (inl e) up low calm = (subst (BackedSince b) e k, subst (λ z. b ≤ tick_of (plain z)) e low)
backed_later early b k (Elsewhere d ∷ before) (inr w) up low calm =
    let o = backed_later early b k before w up.1 low (λ c r v u. calm c r (inr v) u) in
    let rise = up.0 in
    let le = o.1 in
    (record { at = o.0.at; of_peer = o.0.of_peer; back_is = o.0.back_is; since = o.0.since }, omega (arith, rise, le))
backed_later early b k (Here d ∷ before) (inr w) up low calm =
    let o = backed_later early b k before w up.1 low (λ c r v u. calm c r (inr v) u) in
    let rise = up.0 in
    let le = o.1 in
    (by_deed d.deed refl o.0 le rise, omega (arith, rise, le)) where
      by_deed : (deed : Deed) → d.deed ≡ deed → BackedSince b before → b ≤ tick_of (plain before) → tick_of (plain before) ≤ d.tick →
          BackedSince b (Here d ∷ before)
      by_deed (Acts Boot) is o le rise = absurd (calm d before (inl refl) w is)
      by_deed (Acts (Back p)) is o le rise =
          record { at = d.tick; of_peer = p; back_is = ap (λ z. (held_after z d.tick (held before)).back) is; since = omega (arith, le, rise) }
      by_deed (Acts (Quit p)) is o le rise =
          record { at = o.at; of_peer = o.of_peer; back_is = ap (λ z. (held_after z d.tick (held before)).back) is ∙ o.back_is; since = o.since }
      by_deed deed is o le rise =
          record { at = o.at; of_peer = o.of_peer; back_is = ap (λ z. (held_after z d.tick (held before)).back) is ∙ o.back_is; since = o.since }
