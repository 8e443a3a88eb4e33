-- A port that is looked at in time does what it has armed an alarm for in time.
use Rattle.std.proofs.Common.{sym, ap, subst, arith, true≢false, ◌∙◌, ◌≡◌, ◌≤◌, ◌⊎◌, ℕ, ◌+◌, ◌||◌, Bool, true, false, if◌then◌else◌, List, [], ◌∷◌, Option}
use Rattle.std.proofs.Common.{None, Some, inl, inr, is_some, refl}
use Rattle.std.proofs.Math.Nat.{mod-lt}
use Rattle.tsp_rules.specs.Values.{Boot, Become, Arm, Ring, Late, Abandon, Alarm, Quiet, Search, Elect, Window, Probe, CloseAlarm, ResolveAlarm, Round, WINDOW}
use Rattle.tsp_rules.specs.Values.{ELECT_MIN, ELECT_SPREAD}
use Rattle.tsp_base.specs.Words.{Acts, did_of, Deadlines, Deed, Did, Line, Seen, Here, Elsewhere, armed, armed_after, deadline, none_armed, of, plain, started}
use Rattle.tsp_base.specs.Words.{started_after, view, with_deadline, word}
use Rattle.tsp_promises.specs.{Fits.node_of, Setting.Setting}
use Rattle.tsp_promises.proofs.{shared.EverywhereLemmas.Everywhere_at, shared.EverywhereLemmas.Everywhere_from}
use Rattle.tsp_progress.specs.AlarmsFit.{AlarmFits, AlarmsFit, ArmFits, Manner}
use Rattle.tsp_progress.specs.InTime.{AlarmEnds, AllInTime, ArmedWithin, CandidatureEnds, EndsInTime, InTime, LooseSeeks, RoundCloses, StartEnds, is_alarm}
use Rattle.tsp_progress.specs.InTime.{last_arm, last_arm_after, longest}
use Rattle.tsp_progress.specs.{Wakes.AllWake, Wakes.Wakes, Wakes.Woken, Wakes.WokenAt, Watched.Attended, Watched.AttendedAt, Watched.BeginsAt, Watched.Told}
use Rattle.tsp_progress.specs.{Watched.Watched}

-- another deadline for one alarm

pub with_same : (d : Deadlines) (a b : Alarm) (o : Option ℕ) → is_alarm a b ≡ true → deadline (with_deadline d b o) a ≡ o
with_same d Quiet Quiet o e = refl
with_same d Search Search o e = refl
with_same d Elect Elect o e = refl
with_same d Window Window o e = refl
with_same d Probe Probe o e = refl
with_same d CloseAlarm CloseAlarm o e = refl
with_same d ResolveAlarm ResolveAlarm o e = refl
with_same d Round Round o e = refl
with_same d _ _ o e = absurd (true≢false (sym e))

pub with_other : (d : Deadlines) (a b : Alarm) (o : Option ℕ) → is_alarm a b ≡ false → deadline (with_deadline d b o) a ≡ deadline d a
with_other d Quiet Quiet o e = absurd (true≢false e)
with_other d Search Search o e = absurd (true≢false e)
with_other d Elect Elect o e = absurd (true≢false e)
with_other d Window Window o e = absurd (true≢false e)
with_other d Probe Probe o e = absurd (true≢false e)
with_other d CloseAlarm CloseAlarm o e = absurd (true≢false e)
with_other d ResolveAlarm ResolveAlarm o e = absurd (true≢false e)
with_other d Round Round o e = absurd (true≢false e)
with_other d _ _ o e = refl

pub none_is : (a : Alarm) → deadline none_armed a ≡ None
none_is Quiet = refl
none_is _ = refl

pub same_alarm : (a b : Alarm) → is_alarm a b ≡ true → a ≡ b
same_alarm Quiet Quiet e = refl
same_alarm Search Search e = refl
same_alarm Elect Elect e = refl
same_alarm Window Window e = refl
same_alarm Probe Probe e = refl
same_alarm CloseAlarm CloseAlarm e = refl
same_alarm ResolveAlarm ResolveAlarm e = refl
same_alarm Round Round e = refl
same_alarm _ _ e = absurd (true≢false (sym e))

pub none_some : {A : Type 0} {o : Option ℕ} {at : ℕ} → o ≡ None → o ≡ Some at → A
none_some n e = let bad : None ≡ Some _ = sym n ∙ e in absurd (no_none bad) where
  no_none : {at : ℕ} → None ≡ Some at → ⊥
  no_none e = cc

pub value_of : {a b : ℕ} → Some a ≡ Some b → a ≡ b
value_of {a} e = ap (λ (o : Option ℕ). value o a) e where
  value : Option ℕ → ℕ → ℕ
  value None other = other
  value (Some n) other = n

-- a place where the alarm was armed for this tick
pub record PlaceOf (a : Alarm) (at : ℕ) (place : List Seen) : Type 0 where
  pub arm : Did
  pub idle : List Seen
  pub last : place ≡ Here arm ∷ idle
  pub fits : ArmFits a arm idle at

-- what is armed for this tick was armed at its last arming
module _ (a : Alarm) (at : ℕ) (d : Did) (before : List Seen) (older : deadline (armed before) a ≡ Some at → PlaceOf a at (last_arm a before)) where
  by_arm : (b : Alarm) (to : ℕ) → ArmFits b d before to → deadline (with_deadline (armed before) b (Some to)) a ≡ Some at → (same : Bool) → is_alarm a b ≡
      same →
      PlaceOf a at (if same then Here d ∷ before else last_arm a before)
  by_arm b to f e true s = record {
    arm = d;
    idle = before;
    last = refl;
    fits = subst (λ c. ArmFits c d before at) (sym (same_alarm a b s)) (subst (λ n. ArmFits b d before n)
        (value_of (sym (with_same (armed before) a b (Some to) s) ∙ e)) f);
  }
  by_arm b to f e false s = older (sym (with_other (armed before) a b (Some to) s) ∙ e)

  by_off : (b : Alarm) → deadline (with_deadline (armed before) b None) a ≡ Some at → (same : Bool) → is_alarm a b ≡ same → PlaceOf a at (last_arm a before)
  by_off b e true s = none_some (with_same (armed before) a b None s) e
  by_off b e false s = older (sym (with_other (armed before) a b None s) ∙ e)

  by_abandon : (same : Bool) → is_alarm a CloseAlarm ≡ same → deadline (with_deadline (with_deadline (armed before) Probe None) CloseAlarm None) a ≡ Some at →
      PlaceOf a at (last_arm a before)
  by_abandon true s e = none_some (with_same (with_deadline (armed before) Probe None) a CloseAlarm None s) e
  by_abandon false s e = by_off Probe (sym (with_other (with_deadline (armed before) Probe None) a CloseAlarm None s) ∙ e) (is_alarm a Probe) refl

  by_deed_holds : (deed : Deed) → AlarmFits deed d before → deadline (armed_after deed (armed before)) a ≡ Some at →
      PlaceOf a at (last_arm_after a deed (Here d ∷ before) (last_arm a before))
  by_deed_holds (Acts Boot) f e = none_some (none_is a) e
  by_deed_holds (Acts (Become r)) f e = none_some (none_is a) e
  by_deed_holds (Acts (Arm b to)) f e = by_arm b to f e (is_alarm a b) refl
  by_deed_holds (Acts (Ring b)) f e = by_off b e (is_alarm a b) refl
  by_deed_holds (Acts (Late b)) f e = by_off b e (is_alarm a b) refl
  by_deed_holds (Acts Abandon) f e = by_abandon (is_alarm a CloseAlarm) refl e
  by_deed_holds _ f e = older e

pub armed_place : (m : Manner) (a : Alarm) (at : ℕ) (seen : List Seen) → AlarmsFit m seen → deadline (armed seen) a ≡ Some at → PlaceOf a at (last_arm a seen)
armed_place m a at [] f e = none_some (none_is a) e
armed_place m a at (Here d ∷ before) f e = by_deed_holds a at d before (armed_place m a at before f.1.1) d.deed f.0 e
armed_place m a at (Elsewhere d ∷ before) f e = armed_place m a at before f.1 e

-- a round is what Close was armed for
started_is_holds : (seen : List Seen) → last_arm CloseAlarm seen ≡ started seen
started_is_holds [] = refl
started_is_holds (Elsewhere d ∷ before) = started_is_holds before
started_is_holds (Here d ∷ before) = by_deed d.deed (started_is_holds before) where
  by_deed : (deed : Deed) → last_arm CloseAlarm before ≡ started before → last_arm_after CloseAlarm deed (Here d ∷ before) (last_arm CloseAlarm before) ≡
      started_after deed (Here d ∷ before) (started before)
  by_deed (Acts Boot) e = refl
  by_deed (Acts (Arm CloseAlarm at)) e = refl
  by_deed (Acts (Arm _ at)) e = e
  by_deed _ e = e

-- how far ahead
pub ahead_most : (a : Alarm) (arm : Did) (idle : List Seen) (at : ℕ) → ArmFits a arm idle at → at ≤ arm.tick + longest a
ahead_most Elect arm idle at f = let less = mod-lt (word (plain idle)) {m = ELECT_SPREAD} (omega arith) in omega (arith, f, less)
ahead_most Round arm idle at (inl f, by) = omega (arith, f)
ahead_most Round arm idle at (inr f, by) = omega (arith, f)
ahead_most Quiet arm idle at f = omega (arith, f)
ahead_most Search arm idle at f = omega (arith, f)
ahead_most Window arm idle at f = omega (arith, f)
ahead_most Probe arm idle at f = omega (arith, f)
ahead_most CloseAlarm arm idle at f = omega (arith, f)
ahead_most ResolveAlarm arm idle at f = omega (arith, f)

-- each alarm ends in time

module _ (m : Manner) (late x : ℕ) (seen : List Seen) (wakes : Wakes m seen) (watched : Watched late x seen) where
  alarm_ends : AlarmEnds late x seen
  alarm_ends a at e =
      let p = armed_place m a at seen wakes.acts e in
      let ahead = ahead_most a p.arm p.idle at p.fits in
      let due = watched.alarms a at e in
      record { arm = p.arm; idle = p.idle; last = p.last; since = omega (arith, ahead, due) }

  -- an alarm that is armed, for whatever
  some_ends : (a : Alarm) → is_some (deadline (armed seen) a) ≡ true → ArmedWithin a (longest a + late) x seen
  some_ends a some = by_case (deadline (armed seen) a) refl some where
    by_case : (o : Option ℕ) → deadline (armed seen) a ≡ o → is_some o ≡ true → ArmedWithin a (longest a + late) x seen
    by_case None e some = absurd (true≢false (sym some))
    by_case (Some at) e some = alarm_ends a at e

  start_ends : StartEnds late x seen
  start_ends r start idle s = let due = watched.alarms Quiet _ (wakes.starting r start idle s) in omega (arith, due)

  candidature_ends : CandidatureEnds late x seen
  candidature_ends r =
      let w = wakes.candidate r in
      let due = watched.alarms Window _ w.window_is in
      record { start = w.start; idle = w.idle; stood_is = w.stood_is; since = omega (arith, due) }

  round_closes : RoundCloses late x seen
  round_closes going = let a = some_ends CloseAlarm going in record {
    start = a.arm;
    idle = a.idle;
    started_is = sym (started_is_holds seen) ∙ a.last;
    since = a.since;
  }

  loose_seeks : LooseSeeks late x seen
  loose_seeks r = by_case (is_some (armed seen).search) refl (wakes.loose r) where
    by_case : (b : Bool) → is_some (armed seen).search ≡ b → (b || is_some (armed seen).elect) ≡ true → ArmedWithin Search (WINDOW + late) x seen ⊎
        ArmedWithin Elect (ELECT_MIN + ELECT_SPREAD + late) x seen
    by_case true e some = inl (some_ends Search e)
    by_case false e some = inr (some_ends Elect some)

  in_time : InTime late x seen
  in_time = record {
    alarm = alarm_ends;
    start = start_ends;
    candidature = candidature_ends;
    round = round_closes;
    rounds = λ r. some_ends Round (wakes.master r);
    resolution = λ e. some_ends ResolveAlarm e;
    search = λ e. some_ends Search e;
    follower = λ p r. some_ends Elect (wakes.follow p r);
    loose = loose_seeks;
  }

pub attended_in_time : (m : ℕ → Manner) (late : ℕ) (world : List Line) → Woken m world → Attended late world → AllInTime late world
attended_in_time m late world w a = Everywhere_from (BeginsAt (InTime late)) world (λ l before within begins q.
    in_time (m (node_of l)) late l.did.tick (view q (of (node_of l) before)) (Everywhere_at (WokenAt m) l before world w within begins q)
    (Everywhere_at (AttendedAt late) l before world a within begins q))

pub told_in_time : (m : ℕ → Manner) (late : ℕ) (setting : Setting) (t n : ℕ) (world : List Line) → AllWake m world → Told late setting t n world →
    EndsInTime late setting t n world
told_in_time m late setting t n world w told q = in_time (m n) late (setting.tick n t) (view q (of n world)) (w n q) (told q)

-- the tick of the newest deed at a place
abbrev pub tick_of : List Seen → ℕ
tick_of [] = 0
tick_of (s ∷ before) = (did_of s).tick

-- what is said of a deed's tick, said of that of its place
pub since_tick : {place idle : List Seen} {d : Did} (at x long : ℕ) → tick_of place ≡ at → place ≡ Here d ∷ idle → x ≤ d.tick + long → x ≤ at + long
since_tick at x long t e le = let same = sym t ∙ ap tick_of e in omega (arith, same, le)
