-- Where each node is looked at at most SLACK ticks after its alarms are due, none is late.
use Rattle.std.proofs.Common.{sym, ap, subst, arith, ◌∙◌, ◌≡◌, ◌≢◌, ◌≤◌, ℕ, ◌+◌, ◌==◌, ◌||◌, eq-eqb, eqb-true, Bool, true, false, if◌then◌else◌, List, [], ◌∷◌}
use Rattle.std.proofs.Common.{None, Some, inl, inr, refl}
use Rattle.tsp_rules.specs.Values.{Act, Boot, Become, Arm, Ring, Late, Abandon, Alarm, Quiet, Search, Elect, Window, Probe, CloseAlarm, ResolveAlarm, Round}
use Rattle.tsp_rules.specs.Values.{Port, SLACK}
use Rattle.tsp_base.specs.Words.{Acts, Begins, Deed, Did, Line, Seen, Here, Step, Within, armed, armed_after, deadline, dids, is_shared, of, seen_as, view}
use Rattle.tsp_base.specs.Words.{with_deadline}
use Rattle.tsp_base.proofs.PlaceLemmas.{Within_all}
use Rattle.tsp_promises.specs.{Fits.Fits, Fits.LineFits, Fits.node_of, Fits.SameStep, Setting.Setting}
use Rattle.tsp_promises.proofs.{shared.EverywhereLemmas.Everywhere_from, shared.EverywhereLemmas.Everywhere_within}
use Rattle.tsp_progress.specs.AlarmsFit.{AlarmFits, AlarmsFit, ArmFits, LateFits, Manner}
use Rattle.tsp_progress.specs.{InTime.is_alarm, NeverLate.NeverLate, Wakes.AllWake, Watched.Attended}
use Rattle.tsp_progress.proofs.InTimeProof.{none_is, none_some, value_of, with_other, with_same}

-- alarms are armed ahead
ahead_least : (a : Alarm) (arm : Did) (idle : List Seen) (at : ℕ) → ArmFits a arm idle at → arm.tick ≤ at
ahead_least Round arm idle at (inl f, by) = omega (arith, f)
ahead_least Round arm idle at (inr f, by) = omega (arith, f)
ahead_least Elect arm idle at f = omega (arith, f)
ahead_least Quiet arm idle at f = omega (arith, f)
ahead_least Search arm idle at f = omega (arith, f)
ahead_least Window arm idle at f = omega (arith, f)
ahead_least Probe arm idle at f = omega (arith, f)
ahead_least CloseAlarm arm idle at f = omega (arith, f)
ahead_least ResolveAlarm arm idle at f = omega (arith, f)

-- an alarm that is armed after a deed was armed before it, or is armed by it
module _ (a : Alarm) (at : ℕ) (d : Did) (before : List Seen) (late x : ℕ) (now : d.tick ≡ x) (older : deadline (armed before) a ≡ Some at → x ≤ at + late) where
  by_arm : (b : Alarm) (to : ℕ) → ArmFits b d before to → deadline (with_deadline (armed before) b (Some to)) a ≡ Some at → (same : Bool) → is_alarm a b ≡
      same → x ≤ at + late
  by_arm b to f e true s =
      let is : to ≡ at = value_of (sym (with_same (armed before) a b (Some to) s) ∙ e) in
      let least = ahead_least b d before to f in
      omega (arith, is, least, now)
  by_arm b to f e false s = older (sym (with_other (armed before) a b (Some to) s) ∙ e)

  by_off : (b : Alarm) → deadline (with_deadline (armed before) b None) a ≡ Some at → (same : Bool) → is_alarm a b ≡ same → x ≤ at + late
  by_off b e true s = none_some (with_same (armed before) a b None s) e
  by_off b e false s = older (sym (with_other (armed before) a b None s) ∙ e)

  by_abandon : (same : Bool) → is_alarm a CloseAlarm ≡ same → deadline (with_deadline (with_deadline (armed before) Probe None) CloseAlarm None) a ≡ Some at →
      x ≤ at + late
  by_abandon true s e = none_some (with_same (with_deadline (armed before) Probe None) a CloseAlarm None s) e
  by_abandon false s e = by_off Probe (sym (with_other (with_deadline (armed before) Probe None) a CloseAlarm None s) ∙ e) (is_alarm a Probe) refl

  by_deed_holds : (deed : Deed) → AlarmFits deed d before → deadline (armed_after deed (armed before)) a ≡ Some at → x ≤ at + late
  by_deed_holds (Acts Boot) f e = none_some (none_is a) e
  by_deed_holds (Acts (Become r)) f e = none_some (none_is a) e
  by_deed_holds (Acts (Arm b to)) f e = by_arm b to f e (is_alarm a b) refl
  by_deed_holds (Acts (Ring b)) f e = by_off b e (is_alarm a b) refl
  by_deed_holds (Acts (Late b)) f e = by_off b e (is_alarm a b) refl
  by_deed_holds (Acts Abandon) f e = by_abandon (is_alarm a CloseAlarm) refl e
  by_deed_holds _ f e = older e

  by_seen : (m : Manner) (own : Bool) → AlarmsFit m (seen_as own d ∷ before) → deadline (armed (seen_as own d ∷ before)) a ≡ Some at → x ≤ at + late
  by_seen m true f e = by_deed_holds d.deed f.0 e
  by_seen m false f e = older e

-- the tick of a node's newest line
abbrev pub newest : List Line → ℕ
newest [] = 0
newest (l ∷ before) = l.did.tick

pub fit_before : (m : Manner) (own : Bool) (d : Did) (before : List Seen) → AlarmsFit m (seen_as own d ∷ before) → AlarmsFit m before
fit_before m true d before f = f.1.1
fit_before m false d before f = f.1

-- an act is done at the tick of the line before it
pub same_tick : (setting : Setting) (l : Line) (before : List Line) (act : Act) → l.did.deed ≡ Acts act → LineFits setting l before → Fits setting before →
    (l.did.tick ≡ newest (of (node_of l) before))
same_tick setting l before act is line f = by_list before (subst (λ d. SameStep d l.did.step (dids before)) is line.step) f where
  by_list : (lines : List Line) → SameStep (Acts act) l.did.step (dids lines) → Fits setting lines → l.did.tick ≡ newest (of (node_of l) lines)
  by_list [] s f = absurd s
  by_list (last ∷ older) s f =
      let own : (last.did.step.node == node_of l) ≡ true = eq-eqb last.did.step.node (node_of l) (ap (λ (k : Step). k.node) s) in
      let same : last.did.tick ≡ l.did.tick = f.0.tick ∙ (ap (λ (k : Step). setting.tick k.node k.at) s ∙ sym line.tick) in
      rw own (sym same)

module _ (setting : Setting) (late : ℕ) where
  -- throughout each step no alarm is overdue by more than `late` ticks
  pub on_time : (world : List Line) → Fits setting world → Attended late world → (m : Manner) (n : ℕ) (q : Port) → AlarmsFit m (view q (of n world)) →
      (a : Alarm) (at : ℕ) → deadline (armed (view q (of n world))) a ≡ Some at → newest (of n world) ≤ at + late
  on_time [] f w m n q fit a at e = none_some (none_is a) e
  on_time (l ∷ before) f w m n q fit a at e = by_node (node_of l == n) refl fit e (on_time before f.1 w.1 m n q) where
    by_deed : (deed : Deed) → l.did.deed ≡ deed → node_of l ≡ n → AlarmsFit m (seen_as ((l.port.0 == q.0) || is_shared l.did.deed) l.did ∷
        view q (of n before)) →
        deadline (armed (seen_as ((l.port.0 == q.0) || is_shared l.did.deed) l.did ∷ view q (of n before))) a ≡ Some at →
        (AlarmsFit m (view q (of n before)) → (a : Alarm) (at : ℕ) → deadline (armed (view q (of n before))) a ≡ Some at → newest (of n before) ≤ at + late) →
        l.did.tick ≤ at + late
    by_deed Begins is node fit e older =
        by_seen a at l.did (view q (of n before)) late l.did.tick refl
        (λ s. (w.0 is q).alarms a at (subst (λ k. deadline (armed (view q (of k before))) a ≡ Some at) (sym node) s))
        m ((l.port.0 == q.0) || is_shared l.did.deed) fit e
    by_deed (Acts act) is node fit e older =
        let same = same_tick setting l before act is f.0 f.1 in
        by_seen a at l.did (view q (of n before)) late l.did.tick refl
        (λ s. let le = older (fit_before m ((l.port.0 == q.0) || is_shared l.did.deed) l.did (view q (of n before)) fit) a at s in
        let tick : l.did.tick ≡ newest (of n before) = same ∙ ap (λ k. newest (of k before)) node in omega (arith, le, tick))
        m ((l.port.0 == q.0) || is_shared l.did.deed) fit e

    by_node : (b : Bool) → (node_of l == n) ≡ b → AlarmsFit m (view q (if b then l ∷ of n before else of n before)) →
        deadline (armed (view q (if b then l ∷ of n before else of n before))) a ≡ Some at →
        (AlarmsFit m (view q (of n before)) → (a : Alarm) (at : ℕ) → deadline (armed (view q (of n before))) a ≡ Some at → newest (of n before) ≤ at + late) →
        newest (if b then l ∷ of n before else of n before) ≤ at + late
    by_node true same fit e older = by_deed l.did.deed refl (eqb-true (node_of l) n same) fit e older
    by_node false same fit e older = older fit a at e

-- the acts on alarms of an older place came in their time too
fit_within : (m : Manner) (n : ℕ) (q : Port) (world s : List Line) → Within s world → AlarmsFit m (view q (of n world)) → AlarmsFit m (view q (of n s))
fit_within m n q [] s w f = subst (λ k. AlarmsFit m (view q (of n k))) (sym w) f
fit_within m n q (l ∷ before) s (inl e) f = subst (λ k. AlarmsFit m (view q (of n k))) (sym e) f
fit_within m n q (l ∷ before) s (inr w) f = fit_within m n q before s w (by_node (node_of l == n) f) where
  by_node : (b : Bool) → AlarmsFit m (view q (if b then l ∷ of n before else of n before)) → AlarmsFit m (view q (of n before))
  by_node true f = fit_before m ((l.port.0 == q.0) || is_shared l.did.deed) l.did (view q (of n before)) f
  by_node false f = f

late_here : (m : Manner) (l : Line) (before : List Line) (a : Alarm) → l.did.deed ≡ Acts (Late a) → AlarmsFit m (view l.port (of (node_of l) (l ∷ before))) →
    LateFits a l.did (view l.port (of (node_of l) before))
late_here m l before a is f =
    let own : (node_of l == node_of l) ≡ true = eq-eqb (node_of l) (node_of l) refl in
    let here : (l.port.0 == l.port.0) ≡ true = eq-eqb l.port.0 l.port.0 refl in
    let seen = view l.port (of (node_of l) before) in
    let whole : AlarmsFit m (seen_as ((l.port.0 == l.port.0) || is_shared l.did.deed) l.did ∷ seen) =
    subst (λ b. AlarmsFit m (view l.port (if b then l ∷ of (node_of l) before else of (node_of l) before))) own f in
    let first : AlarmsFit m (Here l.did ∷ seen) = subst (λ b. AlarmsFit m (seen_as (b || is_shared l.did.deed) l.did ∷ seen)) here whole in
    subst (λ d. AlarmFits d l.did seen) is first.0

pub never_late : (m : ℕ → Manner) (setting : Setting) (late : ℕ) (world : List Line) → Fits setting world → AllWake m world → Attended late world →
    late ≤ SLACK → NeverLate world
never_late m setting late world f w a slack = Everywhere_from (λ l before. (a : Alarm) → l.did.deed ≢ Acts (Late a)) world (λ l before within alarm is.
    let n = node_of l in
    let fits = Everywhere_within _ (l ∷ before) world f within in
    let attended = Everywhere_within _ (l ∷ before) world a within in
    let fit = fit_within (m n) n l.port world (l ∷ before) within (w n l.port).acts in
    let here = late_here (m n) l before alarm is fit in
    let older = fit_within (m n) n l.port (l ∷ before) before (inr (Within_all before)) fit in
    let soon = on_time setting late before fits.1 attended.1 (m n) n l.port older alarm here.at here.armed_is in
    let same = same_tick setting l before (Late alarm) is fits.0 fits.1 in
    let over = here.late in
    omega (arith, soon, same, over, slack))
