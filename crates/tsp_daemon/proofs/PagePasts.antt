-- What stands on a daemon's page has the clock of its node's past, and doesn't fall.
use Rattle.std.proofs.Common.{refl, ap, ◌∙◌, arith, subst, sym, ◌≡◌, ℕ, zero, suc, ◌+◌, ◌-◌, ◌^◌, ◌<◌, ◌≤◌, min, ◌||◌, ℤ, ◌≤ℤ◌, Bool, true, false}
use Rattle.std.proofs.Common.{if◌then◌else◌, List, [], ◌∷◌, Option}
use Rattle.std.proofs.Common.{None, Some}
use Rattle.std.proofs.lemmas.{Bool.false≢true, Int.ints}
use Rattle.tsp_base.specs.Words.{Acts, Begins, Did, Line, Step, dids, first_port, joined, line_of}
use Rattle.tsp_io.specs.{Boards.Mark, declared.origin.Origin.Origin}
use Rattle.tsp_page.proofs.{PastLemmas.told_on, Rising.max_above, Rising.page_rises}
use Rattle.tsp_page.specs.{Formula.clock_shown_at, Formula.shown_at, Formula.tick_at, Pages.Keeps, Pages.whole_tick, Pasts.TellsOf, Pasts.changes_clock}
use Rattle.tsp_page.specs.Sound.{IsSoundCount}
use Rattle.tsp_page.specs.declared.daemon_half.DaemonHalf.{DaemonHalf}
use Rattle.tsp_rules.specs.{NodeRows.NodePast, Values.Act, Values.Boot, Values.Correct, Values.Placed}
use Rattle.tsp_daemon.specs.Pages.{Page, change_page, changes_page, half_after, half_alive, half_in_turn, is_silent, moment_after}
use Rattle.tsp_daemon.specs.Pages.{Sheet, page_begun, page_by, page_from, sheet_after, sheet_begun, sheet_by, sheet_in_turn, steps_in, tuned_by}
use Rattle.tsp_daemon.specs.Sessions.{Session, acts_in_turn, after_turns, past_after, turn_tick}

-- an act that doesn't change the page doesn't change the clock
quiet : (a : Act) → changes_page a ≡ false → changes_clock (Acts a) ≡ false
quiet Boot e = absurd (false≢true (sym e))
quiet (Correct amount stepped shown) e = absurd (false≢true (sym e))
quiet _ e = refl

neither : (a b : Bool) → (a || b) ≡ false → (a ≡ false) × (b ≡ false)
neither true b e = absurd (false≢true (sym e))
neither false b e = (refl, e)

-- so a half tells of the past after acts that don't
tells_joined : (step : Step) (x : ℕ) (acts : List Placed) (lines : List Line) (h : DaemonHalf) → change_page acts ≡ false → TellsOf (dids lines) h →
    TellsOf (dids (joined step x acts lines)) h
tells_joined step x [] lines h e t = t
tells_joined step x (p ∷ rest) lines h e t =
    let both = neither (changes_page p.act) (change_page rest) e in
    tells_joined step x rest (line_of step x p.port (Acts p.act) ∷ lines) h both.1 (told_on (line_of step x p.port (Acts p.act)).did (dids lines) h t
    (quiet p.act both.0))

-- the page tells of this past, if there is one
abbrev Tells : NodePast → Option Page → Type 0
Tells past None = Unit {0}
Tells past (Some p) = TellsOf (dids past.lines) p.half

begins : (boarded : Bool) (origin : Option Origin) (past : NodePast) (x : ℕ) → Tells past (page_begun (page_from boarded origin past x))
begins true (Some o) past x = record { tick_is = refl; target_is = refl; rest_is = refl }
begins true None past x = tt
begins false origin past x = tt

-- from where ticks are counted doesn't matter
tuned_tells : (ds : List Did) (x moment : ℕ) (tuned : Option Origin) (p : Page) → TellsOf ds p.half → TellsOf ds (half_alive x moment tuned p)
tuned_tells ds x moment None p t = record { tick_is = t.tick_is; target_is = t.target_is; rest_is = t.rest_is }
tuned_tells ds x moment (Some o) p t = record { tick_is = t.tick_is; target_is = t.target_is; rest_is = t.rest_is }

-- a turn keeps it so
by_half : (past : NodePast) (acts : List Placed) (x moment : ℕ) (tuned : Option Origin) (p : Page) → (change_page acts ≡ false →
    TellsOf (dids past.lines) p.half) → TellsOf (dids past.lines) (page_by (half_in_turn past acts x moment tuned p) p).half
by_half past acts x moment tuned p still = by_change (change_page acts) refl where
  by_time : (b : Bool) → TellsOf (dids past.lines) p.half →
      TellsOf (dids past.lines) (page_by (if b then Some (half_alive x moment tuned p) else None) p).half
  by_time true t = tuned_tells (dids past.lines) x moment tuned p t
  by_time false t = t

  by_change : (b : Bool) → change_page acts ≡ b → TellsOf (dids past.lines) (page_by (if b then Some (half_after past acts x moment p) else if is_silent x p
      then Some (half_alive x moment tuned p) else None) p).half
  by_change true e = record { tick_is = refl; target_is = refl; rest_is = refl }
  by_change false e = by_time (is_silent x p) (still e)

by_page : (s : Session) (acts : List Placed) (past : NodePast) (x moment : ℕ) (sheet : Sheet) (page : Option Page)
    → ((p : Page) → page ≡ Some p → change_page acts ≡ false → TellsOf (dids past.lines) p.half) → page ≡ sheet.page
    → Tells past (sheet_by past acts x moment sheet page).page
by_page s acts past x moment sheet None still same = subst (λ (o : Option Page). Tells past o) same tt
by_page s acts past x moment sheet (Some p) still same = by_half past acts x moment (tuned_by moment sheet p) p (still p refl)

turns : (delay : ℕ) (s : Session) (sheet : Sheet) → Tells s.past sheet.page → Tells (past_after s) (sheet_in_turn delay s sheet).page
turns delay s sheet t =
    by_page s (acts_in_turn s) (past_after s) (turn_tick s) (moment_after delay (turn_tick s)) sheet sheet.page
    (λ p is e. tells_joined _ (turn_tick s) (acts_in_turn s) (line_of _ (turn_tick s) first_port Begins ∷
    s.past.lines) p.half e (told_on (line_of _ (turn_tick s) first_port Begins).did (dids s.past.lines) p.half
    (subst (λ (o : Option Page). Tells s.past o) is t) refl)) refl

all_tell : (delay n x : ℕ) (s : Session) (boarded : Bool) (origin : Option Origin) (views : List Mark) →
    Tells (after_turns n s).past (sheet_after delay n s (sheet_begun (page_from boarded origin s.past x) origin views)).page
all_tell delay zero x s boarded origin views = begins boarded origin s.past x
all_tell delay (suc n) x s boarded origin views =
    turns delay (after_turns n s) (sheet_after delay n s (sheet_begun (page_from boarded origin s.past x) origin views))
    (all_tell delay n x s boarded origin views)

pub page_tells : (delay n x : ℕ) (s : Session) (boarded : Bool) (origin : Option Origin) (views : List Mark) (page : Page) →
    (sheet_after delay n s (sheet_begun (page_from boarded origin s.past x) origin views)).page ≡ Some page
    → TellsOf (dids (after_turns n s).past.lines) page.half
page_tells delay n x s boarded origin views page e = subst (λ (o : Option Page). Tells (after_turns n s).past o) e
    (all_tell delay n x s boarded origin views)

same_some : {A : Type 0} (a b : A) → Some a ≡ Some b → a ≡ b
same_some a b e = cc

le_trans : (a b c : ℤ) → a ≤ℤ b → b ≤ℤ c → a ≤ℤ c
le_trans a b c h k = omega (arith, ints)

-- the least of a half is no less than what the half before it showed
above : (old h : DaemonHalf) (a b moment : ℕ) → a ≤ moment → h.least ≡ shown_at old moment → shown_at old a ≤ℤ shown_at h b
above old h a b moment early least = le_trans (shown_at old a) h.least (shown_at h b)
    (subst (λ z. shown_at old a ≤ℤ z) (sym least) (page_rises old a moment early)) (max_above h.least (clock_shown_at h b))

alive_least : (x moment : ℕ) (tuned : Option Origin) (p : Page) → (half_alive x moment tuned p).least ≡ shown_at p.half moment
alive_least x moment None p = refl
alive_least x moment (Some o) p = refl

-- each half that a turn writes without a step has this least
least_in_turn : (past : NodePast) (acts : List Placed) (x moment : ℕ) (tuned : Option Origin) (p : Page) (h : DaemonHalf) →
    half_in_turn past acts x moment tuned p ≡ Some h → steps_in acts ≡ 0 → h.least ≡ shown_at p.half moment
least_in_turn past acts x moment tuned p h is none = by_change (change_page acts) is where
  changed : (half_after past acts x moment p).least ≡ shown_at p.half moment
  changed = rw none refl

  by_time : (c : Bool) → (if c then Some (half_alive x moment tuned p) else None) ≡ Some h → h.least ≡ shown_at p.half moment
  by_time true e = sym (ap (λ (k : DaemonHalf). k.least) (same_some (half_alive x moment tuned p) h e)) ∙ alive_least x moment tuned p
  by_time false e = absurd (cc)

  by_change : (c : Bool) → (if c then Some (half_after past acts x moment p) else if is_silent x p then Some (half_alive x moment tuned p) else None) ≡
      Some h → h.least ≡ shown_at p.half moment
  by_change true e = sym (ap (λ (k : DaemonHalf). k.least) (same_some (half_after past acts x moment p) h e)) ∙ changed
  by_change false e = by_time (is_silent x p) e

pub half_rises : (past : NodePast) (acts : List Placed) (x moment : ℕ) (tuned : Option Origin) (p : Page) (h : DaemonHalf) →
    half_in_turn past acts x moment tuned p ≡ Some h →
    steps_in acts ≡ 0 → (a b : ℕ) → a ≤ moment → a ≤ b → shown_at p.half a ≤ℤ shown_at h b
half_rises past acts x moment tuned p h is none a b early later = above p.half h a b moment early (least_in_turn past acts x moment tuned p h is none)

-- what a turn writes without a step keeps on: readers of the half before it, up to a nanosecond whose tick is no later than the moment, saw no
-- later time than a reader of this one sees
same_steps : (steps more : ℕ) → more ≡ 0 → steps < 2 ^ 64 → min (steps + more) (2 ^ 64 - 1) ≡ steps
same_steps steps more none few = omega (arith, none, few)

alive_life : (x moment : ℕ) (tuned : Option Origin) (p : Page) → ((half_alive x moment tuned p).life ≡ p.half.life) ×
    ((half_alive x moment tuned p).steps ≡ p.half.steps)
alive_life x moment None p = (refl, refl)
alive_life x moment (Some o) p = (refl, refl)

same_life : (past : NodePast) (acts : List Placed) (x moment : ℕ) (tuned : Option Origin) (p : Page) (h : DaemonHalf) →
    half_in_turn past acts x moment tuned p ≡ Some h → steps_in acts ≡ 0 → p.half.steps < 2 ^ 64 → (h.life ≡ p.half.life) × (h.steps ≡ p.half.steps)
same_life past acts x moment tuned p h is none few = by_change (change_page acts) is where
  by_time : (c : Bool) → (if c then Some (half_alive x moment tuned p) else None) ≡ Some h → (h.life ≡ p.half.life) × (h.steps ≡ p.half.steps)
  by_time true e =
      let same = sym (same_some (half_alive x moment tuned p) h e) in
      let alive = alive_life x moment tuned p in
      (ap (λ (k : DaemonHalf). k.life) same ∙ alive.0, ap (λ (k : DaemonHalf). k.steps) same ∙ alive.1)
  by_time false e = absurd (cc)

  by_change : (c : Bool) → (if c then Some (half_after past acts x moment p) else if is_silent x p then Some (half_alive x moment tuned p) else None) ≡
      Some h → (h.life ≡ p.half.life) × (h.steps ≡ p.half.steps)
  by_change true e =
      let same = sym (same_some (half_after past acts x moment p) h e) in
      (ap (λ (k : DaemonHalf). k.life) same, ap (λ (k : DaemonHalf). k.steps) same ∙ same_steps p.half.steps (steps_in acts) none few)
  by_change false e = by_time (is_silent x p) e

pub half_keeps : (past : NodePast) (acts : List Placed) (x moment n : ℕ) (tuned : Option Origin) (p : Page) (h : DaemonHalf) →
    half_in_turn past acts x moment tuned p ≡ Some h → steps_in acts ≡ 0 → p.half.steps < 2 ^ 64 → IsSoundCount h →
    whole_tick (tick_at p.half n) ≤ moment → Keeps p.half (record { half = h; at = n })
half_keeps past acts x moment n tuned p h is none few sound early =
    let same = same_life past acts x moment tuned p h is none few in
    record {
      sound = sound;
      life = same.0;
      steps = same.1;
      least = subst (λ z. shown_at p.half (whole_tick (tick_at p.half n)) ≤ℤ z) (sym (least_in_turn past acts x moment tuned p h is none))
          (page_rises p.half (whole_tick (tick_at p.half n)) moment early);
    }
