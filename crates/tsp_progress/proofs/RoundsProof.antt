-- A master's rounds recur.
use Rattle.std.proofs.Common.{sym, ap, subst, arith, true≢false, ◌∙◌, ◌≡◌, ◌≤◌, ◌⊎◌, inl, inr, ℕ, ◌+◌, nat_le, le-leb, Bool, true, List, [], ◌∷◌, Option, None}
use Rattle.std.proofs.Common.{Some, is_some, refl}
use Rattle.std.proofs.lemmas.Bool.{and_from}
use Rattle.tsp_rules.specs.Values.{Act, Boot, Become, Arm, Ring, Late, Alarm, Probe, CloseAlarm, Round, Master, ROUND, WAIT, SLACK}
use Rattle.tsp_base.specs.Words.{Acts, Begins, Deed, Did, Line, Seen, Here, Elsewhere, armed, armed_after, of, plain, started, started_after, stood}
use Rattle.tsp_base.specs.Words.{stood_after, tick_of, view}
use Rattle.tsp_promises.specs.{Fits.Fits, Fits.node_of, Setting.Setting}
use Rattle.tsp_promises.proofs.{shared.EverywhereLemmas.Everywhere_at, shared.EverywhereLemmas.Everywhere_from, shared.EverywhereLemmas.Everywhere_within}
use Rattle.tsp_progress.specs.AlarmsFit.{AlarmFits, AlarmsFit, ArmFits, Arms, LateFits, Manner, NextFits, NextTo, ProbeNext, RoundNext, arms_round_by}
use Rattle.tsp_progress.specs.AlarmsFit.{newest_is, rings_round, rounds_by}
use Rattle.tsp_progress.specs.{InTime.ArmedWithin, InTime.StartedWithin, InTime.StoodWithin, InTime.last_arm, InTime.last_arm_after, RoundsRecur.RoundBegins}
use Rattle.tsp_progress.specs.{RoundsRecur.RoundsRecur}
use Rattle.tsp_progress.specs.{Wakes.Wakes, Wakes.Woken, Wakes.WokenAt, Watched.Attended, Watched.AttendedAt, Watched.BeginsAt, Watched.Watched}
use Rattle.tsp_progress.proofs.AloneProof.{Paced, soon_before}
use Rattle.tsp_progress.proofs.InTimeProof.{none_some, value_of}
use Rattle.tsp_progress.proofs.PaceProof.{paced}
use Rattle.tsp_progress.proofs.Waking.{free_to}

-- what Round is armed for: after the port won, after its round began, or to wait
record Won (at : ℕ) (place : List Seen) : Type 0 where
  pub start : Did
  pub idle : List Seen
  pub is : place ≡ Here start ∷ idle
  pub until : at ≤ start.tick + ROUND

record Waits (at : ℕ) (place : List Seen) : Type 0 where
  pub arm : Did
  pub idle : List Seen
  pub is : place ≡ Here arm ∷ idle
  pub until : at ≤ arm.tick + WAIT

abbrev Armed : ℕ → List Seen → List Seen → List Seen → Type 0
Armed at won round arm = Won at won ⊎ (Won at round ⊎ Waits at arm)

-- Round was armed for a round, and Probe comes next; or both were, and Close comes next
record Beginning (m : Manner) (seen : List Seen) : Type 0 where
  pub arms : newest_is arms_round_by seen ≡ true
  pub next : (next : Deed) → NextTo m seen next → Arms Probe next

record Probing (m : Manner) (seen : List Seen) : Type 0 where
  pub next : (next : Deed) → NextTo m seen next → Arms CloseAlarm next

-- where Round is armed
record Recurs (m : Manner) (seen : List Seen) : Type 0 where
  pub ahead : (at : ℕ) → (armed seen).round ≡ Some at → at ≤ tick_of (plain seen) + ROUND
  pub state : ((at : ℕ) → (armed seen).round ≡ Some at → Armed at (stood seen) (started seen) (last_arm Round seen)) ⊎ (Beginning m seen ⊎ Probing m seen)

-- the newest deed is one after which Round is armed
record Newest (test : Deed → Bool) (seen : List Seen) : Type 0 where
  pub last : Did
  pub older : List Seen
  pub is : seen ≡ Here last ∷ older
  pub holds : test last.deed ≡ true

newest_of : (test : Deed → Bool) (seen : List Seen) → newest_is test seen ≡ true → Newest test seen
newest_of test [] e = absurd (true≢false (sym e))
newest_of test (Here d ∷ older) e = record { last = d; older = older; is = refl; holds = e }
newest_of test (Elsewhere d ∷ older) e = absurd (true≢false (sym e))

-- no alarm was late
no_late : {A : Type 0} (late : ℕ) → late ≤ SLACK → (m : Manner) (a : Alarm) (before : List Seen) → AlarmsFit m before → Paced late before →
    (last : Did) (older : List Seen) → before ≡ Here last ∷ older → last.deed ≡ Acts (Late a) → A
no_late late slack m a before fits pace last older same is =
    let f = subst (λ deed. AlarmFits deed last older) is (subst (AlarmsFit m) same fits).0 in
    let p = subst (Paced late) same pace in
    let level = p.0.level (Late a) is in
    let le = soon_before late older p.1 a f.at f.armed_is in
    let over = f.late in
    let no : ⊥ = omega (arith, le, over, slack, level) in absurd no

-- what asks nothing isn't in the midst of a round's beginning
not_beginning : {A : Type 0} (m : Manner) (seen : List Seen) → NextTo m seen Begins → Beginning m seen ⊎ Probing m seen → A
not_beginning m seen n (inl b) = let k = b.next Begins n in let is = k.1 in let bad : ⊥ = cc in absurd bad
not_beginning m seen n (inr p) = let k = p.next Begins n in let is = k.1 in let bad : ⊥ = cc in absurd bad

module _ (late : ℕ) (slack : late ≤ SLACK) (m : Manner) (d : Did) (before : List Seen) (level : d.tick ≡ tick_of (plain before)) (pace : Paced late before)
    (fits : AlarmsFit m before) (inv : Recurs m before) where
  -- Round as it was
  ahead_kept : (at : ℕ) → (armed before).round ≡ Some at → at ≤ d.tick + ROUND
  ahead_kept at e = let le = inv.ahead at e in omega (arith, le, level)

  never : {A : Type 0} (a : Alarm) → LateFits a d before → A
  never a f = let le = soon_before late before pace a f.at f.armed_is in let over = f.late in let no : ⊥ = omega (arith, le, over, slack, level) in absurd no

  -- what follows when the port isn't in the midst of a round's beginning
  abbrev Settled : Type 0
  Settled = (at : ℕ) → (armed before).round ≡ Some at → Armed at (stood before) (started before) (last_arm Round before)

  abbrev After : Deed → Type 0
  After deed = ((at : ℕ) → (armed_after deed (armed before)).round ≡ Some at → Armed at (stood_after deed (Here d ∷ before) (stood before))
      (started_after deed (Here d ∷ before) (started before)) (last_arm_after Round deed (Here d ∷ before) (last_arm Round before)))
      ⊎ (Beginning m (Here d ∷ before) ⊎ Probing m (Here d ∷ before))

  -- Round is armed
  round_armed : (at : ℕ) → d.deed ≡ Acts (Arm Round at) → ArmFits Round d before at → After (Acts (Arm Round at))
  round_armed at is (inr f, by) = inl (λ to e. let same : at ≡ to = value_of e in
      inr (inr (record { arm = d; idle = before; is = refl; until = omega (arith, same, f) })))
  round_armed at is (inl f, by) = by_last (newest_of rounds_by before by) where
    won : (last : Did) (older : List Seen) → before ≡ Here last ∷ older → last.deed ≡ Acts (Become Master) → After (Acts (Arm Round at))
    won last older same become = inl (λ to e. let eq : at ≡ to = value_of e in inl (record {
      start = last;
      idle = older;
      is = ap stood same ∙ ap (λ deed. stood_after deed (Here last ∷ older) (stood older)) become;
      until = (let tick : tick_of (plain before) ≡ last.tick = ap (λ l. tick_of (plain l)) same in omega (arith, eq, f, level, tick));
    }))

    begun : newest_is rings_round before ≡ true → After (Acts (Arm Round at))
    begun rang = inr (inl (record {
      arms = ap arms_round_by is;
      next = λ next n. subst (λ b. RoundNext b next) (and_from (newest_is rings_round before) (nat_le (d.tick + ROUND) at) rang
          (le-leb (d.tick + ROUND) at (omega (arith, f)))) (subst (λ deed. NextFits m deed d.tick before next) is n);
    }))

    by_last : Newest rounds_by before → After (Acts (Arm Round at))
    by_last k = by_deed k.last.deed refl k.holds where
      by_deed : (deed : Deed) → k.last.deed ≡ deed → rounds_by deed ≡ true → After (Acts (Arm Round at))
      by_deed (Acts (Become Master)) e t = won k.last k.older k.is e
      by_deed (Acts (Ring Round)) e t = begun (ap (newest_is rings_round) k.is ∙ ap rings_round e)
      by_deed (Acts (Late Round)) e t = no_late late slack m Round before fits pace k.last k.older k.is e
      by_deed _ e t = absurd (true≢false (sym t))

  -- a round began now
  closing : (at : ℕ) → After (Acts (Arm CloseAlarm at))
  closing at = inl (λ to e. let le = ahead_kept to e in inr (inl (record { start = d; idle = before; is = refl; until = le })))

  -- an act where the port isn't in the midst of a round's beginning
  arms : Settled → (a : Alarm) (at : ℕ) → d.deed ≡ Acts (Arm a at) → ArmFits a d before at → After (Acts (Arm a at))
  arms st Round at is f = round_armed at is f
  arms st CloseAlarm at is f = closing at
  arms st _ at is f = inl st

  rings : Settled → (a : Alarm) → After (Acts (Ring a))
  rings st Round = inl (λ at e. none_some refl e)
  rings st _ = inl st

  acts : Settled → (a : Act) → d.deed ≡ Acts a → AlarmFits (Acts a) d before → After (Acts a)
  acts st Boot is f = inl (λ at e. none_some refl e)
  acts st (Become r) is f = inl (λ at e. none_some refl e)
  acts st (Arm a at) is f = arms st a at is f
  acts st (Ring a) is f = rings st a
  acts st (Late a) is f = never a f
  acts st _ is f = inl st

  ahead_arms : (a : Alarm) (at : ℕ) → ArmFits a d before at → (to : ℕ) → (armed_after (Acts (Arm a at)) (armed before)).round ≡ Some to → to ≤ d.tick + ROUND
  ahead_arms Round at (inl f, by) to e = let same : at ≡ to = value_of e in omega (arith, f, same)
  ahead_arms Round at (inr f, by) to e = let same : at ≡ to = value_of e in omega (arith, f, same)
  ahead_arms _ at f to e = ahead_kept to e

  ahead_rings : (a : Alarm) → (to : ℕ) → (armed_after (Acts (Ring a)) (armed before)).round ≡ Some to → to ≤ d.tick + ROUND
  ahead_rings Round to e = none_some refl e
  ahead_rings _ to e = ahead_kept to e

  ahead_acts : (a : Act) → AlarmFits (Acts a) d before → (to : ℕ) → (armed_after (Acts a) (armed before)).round ≡ Some to → to ≤ d.tick + ROUND
  ahead_acts Boot f to e = none_some refl e
  ahead_acts (Become r) f to e = none_some refl e
  ahead_acts (Arm a at) f to e = ahead_arms a at f to e
  ahead_acts (Ring a) f to e = ahead_rings a to e
  ahead_acts (Late a) f to e = never a f
  ahead_acts _ f to e = ahead_kept to e

  state_after : (a : Act) → d.deed ≡ Acts a → AlarmFits (Acts a) d before → NextTo m before d.deed → After d.deed
  state_after a is f n = elim inv.state [
    | inl st ↦ subst After (sym is) (acts st a is f)
    | inr midst ↦ by_midst midst
  ] where
    by_midst : Beginning m before ⊎ Probing m before → After d.deed
    by_midst (inl b) = let k = b.next d.deed n in
        inr (inr (record { next = λ next to. subst (λ c. ProbeNext c next) b.arms (subst (λ deed. NextFits m deed d.tick before next) k.1 to) }))
    by_midst (inr p) = let k = p.next d.deed n in subst After (sym k.1) (closing k.0)

  recurs_after : (a : Act) → d.deed ≡ Acts a → AlarmFits (Acts a) d before → NextTo m before d.deed → Recurs m (Here d ∷ before)
  recurs_after a is f n = record {
    ahead = subst (λ deed. (to : ℕ) → (armed_after deed (armed before)).round ≡ Some to → to ≤ d.tick + ROUND) (sym is) (ahead_acts a f);
    state = state_after a is f n;
  }

-- an entry that isn't an act here
recurs_still : (m : Manner) (s : Seen) (before : List Seen) → tick_of (plain before) ≤ tick_of (plain (s ∷ before)) → (armed (s ∷ before)).round ≡
    (armed before).round → stood (s ∷ before) ≡ stood before → started (s ∷ before) ≡ started before →
    last_arm Round (s ∷ before) ≡ last_arm Round before → NextTo m before Begins → Recurs m before → Recurs m (s ∷ before)
recurs_still m s before order r st sd la n inv = record {
  ahead = λ at e. let le = inv.ahead at (sym r ∙ e) in omega (arith, le, order);
  state = elim inv.state [
    | inl settled ↦ inl (λ at e. elim (settled at (sym r ∙ e)) [
      | inl w ↦ inl (record { start = w.start; idle = w.idle; is = st ∙ w.is; until = w.until })
      | inr more ↦ inr (elim more [
        | inl w ↦ inl (record { start = w.start; idle = w.idle; is = sd ∙ w.is; until = w.until })
        | inr w ↦ inr (record { arm = w.arm; idle = w.idle; is = la ∙ w.is; until = w.until })
      ])
    ])
    | inr midst ↦ not_beginning m before n midst
  ];
}

module _ (late : ℕ) (slack : late ≤ SLACK) (m : Manner) where
  recurs : (seen : List Seen) → AlarmsFit m seen → Paced late seen → Recurs m seen
  recurs [] f p = record { ahead = λ at e. none_some refl e; state = inl (λ at e. none_some refl e) }
  recurs (Here d ∷ before) f p = by_deed d.deed refl f.0 f.1.0 (recurs before f.1.1 p.1) where
    by_deed : (deed : Deed) → d.deed ≡ deed → AlarmFits deed d before → NextTo m before d.deed → Recurs m before → Recurs m (Here d ∷ before)
    by_deed (Acts a) is fits n inv = recurs_after late slack m d before (p.0.level a is) p.1 f.1.1 inv a is fits n
    by_deed Begins is fits n inv = recurs_still m (Here d) before p.0.order (ap (λ deed. (armed_after deed (armed before)).round) is)
        (ap (λ deed. stood_after deed (Here d ∷ before) (stood before)) is)
        (ap (λ deed. started_after deed (Here d ∷ before) (started before)) is) (ap (λ deed. last_arm_after Round deed (Here d ∷
        before) (last_arm Round before)) is) (subst (NextTo m before) is n) inv
  recurs (Elsewhere d ∷ before) f p = recurs_still m (Elsewhere d) before p.0.order refl refl refl refl (free_to m before Begins f.0) (recurs before f.1 p.1)

  pub round_begins : (seen : List Seen) (x : ℕ) → Wakes m seen → Paced late seen → Watched late x seen → RoundBegins late x seen
  round_begins seen x w p watched master = by_round (armed seen).round refl (w.master master) where
    by_round : (o : Option ℕ) → (armed seen).round ≡ o → is_some o ≡ true → StoodWithin (ROUND + late) x seen ⊎
        (StartedWithin (ROUND + late) x seen ⊎ ArmedWithin Round (WAIT + late) x seen)
    by_round None e some = absurd (true≢false (sym some))
    by_round (Some at) e some = let due = watched.alarms Round at e in elim (recurs seen w.acts p).state [
      | inl settled ↦ elim (settled at e) [
        | inl k ↦ let le = k.until in inl (record { start = k.start; idle = k.idle; stood_is = k.is; since = omega (arith, due, le) })
        | inr more ↦ inr (elim more [
          | inl k ↦ let le = k.until in inl (record { start = k.start; idle = k.idle; started_is = k.is; since = omega (arith, due, le) })
          | inr k ↦ let le = k.until in inr (record { arm = k.arm; idle = k.idle; last = k.is; since = omega (arith, due, le) })
        ])
      ]
      | inr midst ↦ not_beginning m seen (free_to m seen Begins w.settled) midst
    ]

pub rounds_recur : (m : ℕ → Manner) (setting : Setting) (late : ℕ) (world : List Line) → Fits setting world → Woken m world → Attended late world →
    late ≤ SLACK → RoundsRecur late world
rounds_recur m setting late world f w a slack = Everywhere_from (BeginsAt (RoundBegins late)) world (λ l before within begins q.
    let n = node_of l in
    let whole = Everywhere_within _ (l ∷ before) world f within in
    let attended = Everywhere_within _ (l ∷ before) world a within in
    let wakes = Everywhere_at (WokenAt m) l before world w within begins q in
    round_begins late slack (m n) (view q (of n before)) l.did.tick wakes (paced setting late before whole.1 attended.1 (m n) n q wakes.acts)
    (Everywhere_at (AttendedAt late) l before world a within begins q))
