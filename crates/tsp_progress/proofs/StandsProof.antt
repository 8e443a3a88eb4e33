-- Neither its boot nor a backing keeps a port from standing for election when Elect rings.
use Rattle.std.proofs.Common.{sym, ap, subst, arith, true≢false, ◌∙◌, ◌≡◌, ◌≤◌, ◌⊎◌, inl, inr, ℕ, ◌+◌, ◌||◌, ◌&&◌, Bool, true, false, List, [], ◌∷◌, Option}
use Rattle.std.proofs.Common.{None, Some, refl}
use Rattle.tsp_rules.specs.Values.{Boot, Become, Arm, Ring, Late, Back, Alarm, Elect, Window, PeerId, Port, ELECT_MIN}
use Rattle.tsp_base.specs.Words.{Acts, Deed, Did, Held, Line, Seen, Here, Elsewhere, armed, armed_after, dids, held, held_after, is_past, of, plain, tick_of}
use Rattle.tsp_base.specs.Words.{view}
use Rattle.tsp_base.proofs.Views.{plain_view}
use Rattle.tsp_promises.specs.{Fits.Fits, OwnFits.OwnFits, Setting.Setting}
use Rattle.tsp_promises.proofs.promised.OwnFitsProof.{own_fits}
use Rattle.tsp_progress.specs.AlarmsFit.{AlarmFits, AlarmsFit, Arms, ArmFits, BackNext, IsFree, Manner, NextFits, NextTo, asks_next, owes_next, stands_by}
use Rattle.tsp_progress.specs.AlarmsFit.{stands_now}
use Rattle.tsp_progress.specs.{Stands.AfterElect, Stands.Stands, Stands.StandsOn, Wakes.AllWake}
use Rattle.tsp_progress.proofs.InTimeProof.{none_some, value_of}

-- ticks don't fall
abbrev pub Rising : List Seen → Type 0
Rising [] = Unit {0}
Rising (s ∷ before) = (tick_of (plain before) ≤ tick_of (plain (s ∷ before))) × Rising before

-- whether the newest deed is a backing
abbrev backs : Deed → Bool
backs (Acts (Back p)) = true
backs _ = false

abbrev backs_now : List Seen → Bool
backs_now [] = false
backs_now (Here d ∷ before) = backs d.deed
backs_now (Elsewhere d ∷ before) = false

-- whether the port stands for election, and armed nothing yet
abbrev standing : List Seen → Bool
standing [] = false
standing (Here d ∷ before) = stands_by d.deed || (backs d.deed && stands_now before)
standing (Elsewhere d ∷ before) = false

-- when Elect is armed it is for long after the boot and the last backing
record Waits (x : ℕ) (h : Held) (elect : Option ℕ) (backing stood : Bool) : Type 0 where
  pub boot_le : h.boot ≤ x
  pub back_le : (b : ℕ) (p : PeerId) → h.back ≡ Some (b, p) → b ≤ x
  pub boots : (at : ℕ) → elect ≡ Some at → h.boot + ELECT_MIN ≤ at
  pub backs : (at : ℕ) → elect ≡ Some at → backing ≡ false → (b : ℕ) (p : PeerId) → h.back ≡ Some (b, p) → b + ELECT_MIN ≤ at
  pub stands : stood ≡ true → elect ≡ None

-- at a port
abbrev Elects : List Seen → Type 0
Elects seen = Waits (tick_of (plain seen)) (held seen) (armed seen).elect (backs_now seen) (standing seen)

abbrev backed_at : ℕ → PeerId → Option (ℕ × PeerId)
backed_at b p = Some (b, p)

back_of : {b c : ℕ} {p q : PeerId} → backed_at b p ≡ backed_at c q → b ≡ c
back_of {b} e = ap (λ (o : Option (ℕ × PeerId)). tick o b) e where
  tick : Option (ℕ × PeerId) → ℕ → ℕ
  tick None other = other
  tick (Some k) other = k.0

no_back : {A : Type 0} {b : ℕ} {p : PeerId} → None ≡ backed_at b p → A
no_back e = let bad : ⊥ = cc in absurd bad

module _ (d : Did) (before : List Seen) (rise : tick_of (plain before) ≤ d.tick) (inv : Elects before) where
  -- after this deed
  abbrev After : Deed → Type 0
  After deed = Waits d.tick (held_after deed d.tick (held before)) (armed_after deed (armed before)).elect (backs deed)
      (stands_by deed || (backs deed && stands_now before))

  boot_le_holds : (held before).boot ≤ d.tick
  boot_le_holds = let le = inv.boot_le in omega (arith, le, rise)

  back_le_holds : (b : ℕ) (p : PeerId) → (held before).back ≡ Some (b, p) → b ≤ d.tick
  back_le_holds b p e = let le = inv.back_le b p e in omega (arith, le, rise)

  arms_elect : (at : ℕ) → ArmFits Elect d before at → After (Acts (Arm Elect at))
  arms_elect at f = record {
    boot_le = boot_le_holds;
    back_le = back_le_holds;
    boots = λ to e. let same : at ≡ to = value_of e in let le = boot_le_holds in omega (arith, f, same, le);
    backs = λ to e n b p is. let same : at ≡ to = value_of e in let le = back_le_holds b p is in omega (arith, f, same, le);
    stands = λ e. absurd (true≢false (sym e));
  }

  -- a deed that leaves Elect alone, and isn't a backing
  kept : (armed-elect : Option ℕ) → armed-elect ≡ (armed before).elect → (h : Held) → h.boot ≡ (held before).boot → h.back ≡ (held before).back →
      backs_now before ≡ false → Waits d.tick h armed-elect false false
  kept elect same h boot back n = record {
    boot_le = (let le = boot_le_holds in omega (arith, le, boot));
    back_le = λ b p e. back_le_holds b p (sym back ∙ e);
    boots = λ at e. let le = inv.boots at (sym same ∙ e) in omega (arith, le, boot);
    backs = λ at e o b p is. inv.backs at (sym same ∙ e) n b p (sym back ∙ is);
    stands = λ e. absurd (true≢false (sym e));
  }

  -- a deed that turns Elect off
  off : (h : Held) → h.boot ≤ d.tick → ((b : ℕ) (p : PeerId) → h.back ≡ Some (b, p) → b ≤ d.tick) → (backing stood : Bool) → Waits d.tick h None backing stood
  off h boot back backing stood = record {
    boot_le = boot;
    back_le = back;
    boots = λ at e. none_some refl e;
    backs = λ at e n. none_some refl e;
    stands = λ e. refl;
  }

  arms : (a : Alarm) (at : ℕ) → ArmFits a d before at → backs_now before ≡ false → After (Acts (Arm a at))
  arms Elect at f n = arms_elect at f
  arms _ at f n = kept _ refl (held before) refl refl n

  rings : (a : Alarm) → backs_now before ≡ false → After (Acts (Ring a))
  rings Elect n = off (held before) boot_le_holds back_le_holds false false
  rings _ n = kept _ refl (held before) refl refl n

  lates : (a : Alarm) → backs_now before ≡ false → After (Acts (Late a))
  lates Elect n = off (held before) boot_le_holds back_le_holds false false
  lates _ n = kept _ refl (held before) refl refl n

  backed : (p : PeerId) → (stood : Bool) → stands_now before ≡ stood → After (Acts (Back p))
  backed p stood e = record {
    boot_le = boot_le_holds;
    back_le = λ b q is. let same : d.tick ≡ b = back_of is in omega (arith, same);
    boots = inv.boots;
    backs = λ at is n. absurd (true≢false n);
    stands = λ is. inv.stands (stands-standing before is);
  } where
    stands-standing : (seen : List Seen) → stands_now seen ≡ true → standing seen ≡ true
    stands-standing [] e = absurd (true≢false (sym e))
    stands-standing (Here k ∷ older) e = rw e refl
    stands-standing (Elsewhere k ∷ older) e = absurd (true≢false (sym e))

  -- where no backing waits for its alarm
  by_deed_holds : (deed : Deed) → AlarmFits deed d before → backs_now before ≡ false → After deed
  by_deed_holds (Acts Boot) f n = off _ (omega arith) (λ b p e. no_back e) false false
  by_deed_holds (Acts (Become r)) f n = off (held before) boot_le_holds back_le_holds false _
  by_deed_holds (Acts (Arm a at)) f n = arms a at f n
  by_deed_holds (Acts (Ring a)) f n = rings a n
  by_deed_holds (Acts (Late a)) f n = lates a n
  by_deed_holds (Acts (Back p)) f n = backed p (stands_now before) refl
  by_deed_holds _ f n = kept _ refl _ refl refl n

  -- where Window is armed since the port stood for election
  windows : (at : ℕ) → standing before ≡ true → After (Acts (Arm Window at))
  windows at stood = record {
    boot_le = boot_le_holds;
    back_le = back_le_holds;
    boots = λ to e. none_some (inv.stands stood) e;
    backs = λ to e. none_some (inv.stands stood) e;
    stands = λ e. absurd (true≢false (sym e));
  }

-- what comes after a backing
after_back : (m : Manner) (last : Deed) (x : ℕ) (older : List Seen) (next : Deed) → backs last ≡ true → NextFits m last x older next → Arms Elect next ⊎
    (Arms Window next × ((stands_by last || (backs last && stands_now older)) ≡ true))
after_back m (Acts (Back p)) x older next e f = by_stands (stands_now older) refl f where
  by_stands : (b : Bool) → stands_now older ≡ b → BackNext b next → Arms Elect next ⊎ (Arms Window next × (stands_now older ≡ true))
  by_stands true s k = inr (k, s)
  by_stands false s k = inl k
after_back m _ x older next e f = absurd (true≢false (sym e))

after_backing : (m : Manner) (before : List Seen) (next : Deed) → backs_now before ≡ true → NextTo m before next → Arms Elect next ⊎
    (Arms Window next × (standing before ≡ true))
after_backing m [] next e f = absurd (true≢false (sym e))
after_backing m (Elsewhere k ∷ older) next e f = absurd (true≢false (sym e))
after_backing m (Here k ∷ older) next e f = after_back m k.deed k.tick older next e f

step : (m : Manner) (d : Did) (before : List Seen) → tick_of (plain before) ≤ d.tick → Elects before → NextTo m before d.deed → AlarmFits d.deed d before →
    Elects (Here d ∷ before)
step m d before rise inv next fits = by_back (backs_now before) refl where
  by_back : (b : Bool) → backs_now before ≡ b → After d before rise inv d.deed
  by_back false e = by_deed_holds d before rise inv d.deed fits e
  by_back true e = elim (after_backing m before d.deed e next) [
    | inl k ↦ subst (After d before rise inv) (sym k.1) (arms_elect d before rise inv k.0 (subst (λ deed. AlarmFits deed d before) k.1 fits))
    | inr k ↦ subst (After d before rise inv) (sym k.0.1) (windows d before rise inv k.0.0 k.1)
  ]

-- a deed that asks nothing is no backing
asks_back : (deed : Deed) (x : ℕ) (older : List Seen) → asks_next deed x older ≡ false → backs deed ≡ false
asks_back (Acts (Back p)) x older e = absurd (true≢false e)
asks_back _ x older e = refl

not_back : (seen : List Seen) → owes_next seen ≡ false → backs_now seen ≡ false
not_back [] e = refl
not_back (Here d ∷ before) e = asks_back d.deed d.tick before e
not_back (Elsewhere d ∷ before) e = refl

elects : (m : Manner) (seen : List Seen) → AlarmsFit m seen → Rising seen → Elects seen
elects m [] f r = record {
  boot_le = omega arith;
  back_le = λ b p e. no_back e;
  boots = λ at e. none_some refl e;
  backs = λ at e n. none_some refl e;
  stands = λ e. refl;
}
elects m (Here d ∷ before) f r = step m d before r.0 (elects m before f.1.1 r.1) f.1.0 f.0
elects m (Elsewhere d ∷ before) f r = kept d before r.0 (elects m before f.1 r.1) _ refl (held before) refl refl (not_back before f.0)

-- a deed on an alarm comes after no backing
ring_free : (m : Manner) (before : List Seen) (a : Alarm) → NextTo m before (Acts (Ring a)) → backs_now before ≡ false
ring_free m before a next = by_back (backs_now before) refl where
  by_back : (b : Bool) → backs_now before ≡ b → backs_now before ≡ false
  by_back false e = e
  by_back true e = elim (after_backing m before (Acts (Ring a)) e next) [
    | inl k ↦ let is = k.1 in let bad : ⊥ = cc in absurd bad
    | inr k ↦ let is = k.0.1 in let bad : ⊥ = cc in absurd bad
  ]

-- when Elect rings the port is free to stand, but for a QUIT
is_free : (m : Manner) (r : Did) (older : List Seen) → r.deed ≡ Acts (Ring Elect) → AlarmsFit m (Here r ∷ older) → Rising older →
    is_past (held older).quit ELECT_MIN r.tick ≡ true → IsFree r.tick (held older)
is_free m r older is f rise quit =
    let e = elects m older f.1.1 rise in
    let ring = subst (λ deed. AlarmFits deed r older) is f.0 in
    let free = ring_free m older Elect (subst (λ deed. NextTo m older deed) is f.1.0) in
    let due = ring.due in
    record {
      boot = (let le = e.boots ring.at ring.armed_is in omega (arith, le, due));
      quit = quit;
      back = λ b p back. let le = e.backs ring.at ring.armed_is free b p back in omega (arith, le, due);
    }

after_elect : (m : Manner) (before : List Seen) (next : Deed) → NextTo m before next → AlarmsFit m before → Rising before → AfterElect m before next
after_elect m [] next n f r = tt
after_elect m (Elsewhere d ∷ older) next n f r = tt
after_elect m (Here d ∷ older) next n f r = λ is may quit. (subst (λ deed. NextFits m deed d.tick older next) is n).stands may (is_free m d older is f r.1 quit)

pub stands_on : (m : Manner) (seen : List Seen) → AlarmsFit m seen → Rising seen → StandsOn m seen
stands_on m [] f r = tt
stands_on m (Here d ∷ before) f r = (after_elect m before d.deed f.1.0 f.1.1 r.1, stands_on m before f.1.1 r.1)
stands_on m (Elsewhere d ∷ before) f r = stands_on m before f.1 r.1

-- ticks of a node rise
pub rising : (setting : Setting) (q : Port) (lines : List Line) → OwnFits setting lines → Rising (view q lines)
rising setting q [] f = tt
rising setting q (l ∷ before) f = (
  subst (λ ds. tick_of ds ≤ tick_of (plain (view q (l ∷ before)))) (sym (plain_view q before))
      (subst (λ ds. tick_of (dids before) ≤ tick_of ds) (sym (plain_view q (l ∷ before))) f.0.tick),
  rising setting q before f.1,
)

pub stands : (m : ℕ → Manner) (setting : Setting) (world : List Line) → Fits setting world → AllWake m world → Stands m world
stands m setting world f w n q = stands_on (m n) (view q (of n world)) (w n q).acts (rising setting q (of n world) (own_fits setting n world f))
