-- A master tells each other member of its network that it is one, again and again.
use Rattle.std.proofs.Common.{sym, ap, subst, arith, true≢false, inl, inr, ◌∙◌, ◌≡◌, ◌≤◌, ◌<◌, ◌⊎◌, ◌||◌, ℕ, ◌+◌, ◌==◌, not, Bool, true, false, List, [], ◌∷◌}
use Rattle.std.proofs.Common.{◌++◌, map, if◌then◌else◌, Some, eqb-true, refl}
use Rattle.std.proofs.lemmas.Bool.{cases_lt}
use Rattle.tsp_rules.specs.Values.{Act, Arm, Become, Boot, Late, Ring, Alarm, Round, Probe, CloseAlarm, Kind, MasterUp, PeerId, Port, Master}
use Rattle.tsp_rules.specs.Values.{CLOSE, PROBE, ROUND, SLACK}
use Rattle.tsp_rules.specs.{Answers.alarm_rings, GateRows.any_port, GateRows.goes_on, GateRows.waits, Guards.is_in_time, NodeRows.NodePast}
use Rattle.tsp_rules.specs.RoundRows.{asks_slaves, begins_or_waits, round_begins, round_rings}
use Rattle.tsp_base.specs.Words.{Acts, Deed, Did, Elsewhere, HeaderValue, Here, Line, Past, Seen, Within, armed, arms, deadline, either_by}
use Rattle.tsp_base.specs.Words.{dids, grown, is_among, is_shared, joined, line_of, of, others, placed, plain, post_of, posts_to_others, puts, role, tick_of}
use Rattle.tsp_base.specs.Words.{view}
use Rattle.tsp_base.specs.Words.{◌followed_by◌}
use Rattle.tsp_base.proofs.PlaceLemmas.{Within_all, Within_comparable, Within_tail, Within_through}
use Rattle.tsp_base.proofs.Views.{plain_view}
use Rattle.tsp_rules.proofs.GuardFacts.{same_peer}
use Rattle.tsp_promises.specs.{Fits.Fits, Setting.Setting}
use Rattle.tsp_promises.proofs.shared.HistoryPlaces.{Within_of, line_on}
use Rattle.tsp_promises.proofs.promised.OwnFitsProof.{Located, fits_at, fits_in, locate, of_tick, own_fits, seen_in}
use Rattle.tsp_promises.proofs.shared.EverywhereLemmas.{Everywhere_at, Everywhere_within}
use Rattle.tsp_run.specs.{Clocked.Clocks, Clocked.SetByClocks, Clocked.clocks_of, Clocked.run_by}
use Rattle.tsp_run.proofs.{OwnClocks.possible_own, OwnClocks.runs_by_own_clocks, OwnClocks.set_own, RunFits.clocked_runs_fit}
use Rattle.tsp_progress.specs.AlarmsFit.{AlarmFits, AlarmsFit, ArmFits, Manner, newest_is, rounds_by}
use Rattle.tsp_progress.specs.ByTable.{ByTable, KeepsTable, before_line, node_in, port_before}
use Rattle.tsp_progress.specs.{FoundInTime.is_change, Heeds.DoesNext, InTime.ArmedWithin, InTime.last_arm, InTime.last_arm_after}
use Rattle.tsp_progress.specs.{RunsWake.manner_of, Wakes.AllWake, Watched.Attended, Watched.Told}
use Rattle.tsp_progress.specs.MastersTell.{ClockedRunsTell, HasOnePort, LeadsOn, MastersTell, OtherMember, RunsTell, TellsWithin}
use Rattle.tsp_progress.proofs.LeadsKept.{role_kept, tick_before}
use Rattle.tsp_progress.proofs.{InTimeProof.PlaceOf, InTimeProof.ahead_most, InTimeProof.armed_place, InTimeProof.told_in_time, NeverLateProof.never_late}
use Rattle.tsp_progress.proofs.NeverLateProof.{newest, on_time, same_tick}
use Rattle.tsp_progress.proofs.{PortSetups.PortIs, PortSetups.differ, PortSetups.member_port, RunWakes.clocked_runs_wake, SearchKept.alarms_within}
use Rattle.tsp_progress.proofs.{SearchKept.rising_within, SearchKept.view_within, StandsProof.Rising, StandsProof.rising, TableProof.clocked_runs_by_table}
use Rattle.tsp_progress.proofs.{CorrectsProof.Stands, CorrectsProof.late_no, CorrectsProof.rest_stands, CorrectsProof.row_stands}
use Rattle.tsp_progress.proofs.{PaceProof.newest-is, TableRows.within_joined}
use Rattle.tsp_progress.proofs.WorldPlaces.{Among, WorldPlace, act_place, in_order, own_place, world_place}

-- another peer is among those to whom a message is posted
pub posted_to : (kind : Kind) (number : ℕ) (name : List ℕ) (p own : PeerId) (ps : List PeerId) → is_among p ps ≡ true → (p.0 == own.0) ≡ false →
    Among (post_of kind number name p) (map (post_of kind number name) (others own ps))
posted_to kind number name p own [] member other = absurd (true≢false (sym member))
posted_to kind number name p own (q ∷ rest) member other = by_case (q.0 == p.0) refl (λ m. posted_to kind number name p own rest m other) member where
  more : (b : Bool) → Among (post_of kind number name p) (map (post_of kind number name) (others own rest)) →
      Among (post_of kind number name p) (map (post_of kind number name) (if b then q ∷ others own rest else others own rest))
  more true a = record { front = post_of kind number name q ∷ a.front; back = a.back; is = ap (λ acts. post_of kind number name q ∷ acts) a.is }
  more false a = a

  by_case : (b : Bool) → (q.0 == p.0) ≡ b → (is_among p rest ≡ true → Among (post_of kind number name p) (map (post_of kind number name) (others own rest))) →
      (b || is_among p rest) ≡ true → Among (post_of kind number name p) (map (post_of kind number name) (others own (q ∷ rest)))
  by_case true same k m =
      let is : q ≡ p = same_peer q p same in
      let keep : not (q.0 == own.0) ≡ true = rw (eqb-true q.0 p.0 same, other) refl in
      rw keep (record {
        front = [];
        back = map (post_of kind number name) (others own rest);
        is = ap (λ z. post_of kind number name z ∷ map (post_of kind number name) (others own rest)) is;
      })
  by_case false differs k m = more (not (q.0 == own.0)) (k m)

-- and more behind
append_assoc : (xs : List Act) (a : Act) (ys zs : List Act) → (xs ++ a ∷ ys) ++ zs ≡ xs ++ a ∷ (ys ++ zs)
append_assoc [] a ys zs = refl
append_assoc (x ∷ xs) a ys zs = ap (λ rest. x ∷ rest) (append_assoc xs a ys zs)

pub among_more : (a : Act) (acts more : List Act) → Among a acts → Among a (acts ++ more)
among_more a acts more m = record { front = m.front; back = m.back ++ more; is = ap (λ z. z ++ more) m.is ∙ append_assoc m.front a m.back more }

-- the first time that Round is armed after tick x
record FirstArm (x : ℕ) (seen : List Seen) : Type 0 where
  pub arm : Did
  pub before : List Seen
  pub place : Within (Here arm ∷ before) seen
  pub at : ℕ
  pub deed : arm.deed ≡ Acts (Arm Round at)
  pub late : x < arm.tick
  -- before it Round was last armed then, or earlier
  pub none : (old : Did) (idle : List Seen) → last_arm Round before ≡ Here old ∷ idle → old.tick ≤ x

module _ (x : ℕ) where
  abbrev NoneYet : List Seen → Type 0
  NoneYet seen = (old : Did) (idle : List Seen) → last_arm Round seen ≡ Here old ∷ idle → old.tick ≤ x

  later : (s : Seen) (before : List Seen) → FirstArm x before → FirstArm x (s ∷ before)
  later s before f = record { arm = f.arm; before = f.before; place = inr f.place; at = f.at; deed = f.deed; late = f.late; none = f.none }

  first : (seen : List Seen) → FirstArm x seen ⊎ NoneYet seen
  first [] = inr (λ old idle e. let bad : ⊥ = cc in absurd bad)
  first (Elsewhere d ∷ before) = elim (first before) [ inl f ↦ inl (later (Elsewhere d) before f) | inr none ↦ inr none ]
  first (Here d ∷ before) = elim (first before) [
    | inl f ↦ inl (later (Here d) before f)
    | inr none ↦ by_deed d.deed refl none
  ] where
    arms : (a : Alarm) (at : ℕ) → d.deed ≡ Acts (Arm a at) → NoneYet before →
        FirstArm x (Here d ∷ before) ⊎ ((old : Did) (idle : List Seen) → last_arm_after Round (Acts (Arm a at)) (Here d ∷ before) (last_arm Round before) ≡
        Here old ∷ idle → old.tick ≤ x)
    arms Round at is none = elim (cases_lt x d.tick) [
      | inl less ↦ inl (record { arm = d; before = before; place = inl refl; at = at; deed = is; late = less; none = none })
      | inr most ↦ inr (λ old idle e. let same : d ≡ old = cc in let tick = ap (λ (k : Did). k.tick) same in omega (arith, most, tick))
    ]
    arms _ at is none = inr none

    by_deed : (deed : Deed) → d.deed ≡ deed → NoneYet before →
        FirstArm x (Here d ∷ before) ⊎ ((old : Did) (idle : List Seen) → last_arm_after Round deed (Here d ∷ before) (last_arm Round before) ≡ Here old ∷ idle →
        old.tick ≤ x)
    by_deed (Acts Boot) is none = inr (λ old idle e. let bad : ⊥ = cc in absurd bad)
    by_deed (Acts (Arm a at)) is none = arms a at is none
    by_deed _ is none = inr none

-- what Round is armed after
data RangBy (d : Did) : Type 0 where
  Won : d.deed ≡ Acts (Become Master) → RangBy d
  Rang : d.deed ≡ Acts (Ring Round) → RangBy d
  WasLate : d.deed ≡ Acts (Late Round) → RangBy d

rang_role : (d : Did) (r : _) → d.deed ≡ Acts (Become r) → rounds_by (Acts (Become r)) ≡ true → RangBy d
rang_role d Master is e = Won is
rang_role d _ is e = absurd (true≢false (sym e))

rang_ring : (d : Did) (a : Alarm) → d.deed ≡ Acts (Ring a) → rounds_by (Acts (Ring a)) ≡ true → RangBy d
rang_ring d Round is e = Rang is
rang_ring d _ is e = absurd (true≢false (sym e))

rang_late : (d : Did) (a : Alarm) → d.deed ≡ Acts (Late a) → rounds_by (Acts (Late a)) ≡ true → RangBy d
rang_late d Round is e = WasLate is
rang_late d _ is e = absurd (true≢false (sym e))

rang_by : (d : Did) (deed : Deed) → d.deed ≡ deed → rounds_by deed ≡ true → RangBy d
rang_by d (Acts (Become r)) is e = rang_role d r is e
rang_by d (Acts (Ring a)) is e = rang_ring d a is e
rang_by d (Acts (Late a)) is e = rang_late d a is e
rang_by d _ is e = absurd (true≢false (sym e))

-- the newest deed is one
record Newest (seen : List Seen) : Type 0 where
  pub ring : Did
  pub idle : List Seen
  pub is : seen ≡ Here ring ∷ idle
  pub by : RangBy ring

newest_by : (seen : List Seen) → newest_is rounds_by seen ≡ true → Newest seen
newest_by [] e = absurd (true≢false (sym e))
newest_by (Elsewhere d ∷ before) e = absurd (true≢false (sym e))
newest_by (Here d ∷ before) e = record { ring = d; idle = before; is = refl; by = rang_by d d.deed refl e }

-- the tick of the newest line, as a port sees it
pub newest_view : (q : Port) (lines : List Line) → newest lines ≡ tick_of (plain (view q lines))
newest_view q lines = newest-is lines ∙ sym (ap tick_of (plain_view q lines))

-- when Round rings at the line, and no other port makes it wait, a round begins
module _ (node : NodePast) (lines : List Line) (table : KeepsTable node lines) (l : Line) (older : List Line) (place : Within (l ∷ older) lines) where
  abbrev Rung : Past
  Rung = grown l.did.tick (port_before node l older) (Ring Round ∷ [])

  begins : l.did.deed ≡ Acts (Ring Round) → waits l.port l.did.tick (before_line node l older) ≡ false → DoesNext (round_begins l.did.tick Rung) l older lines
  unfolding alarm_rings round_rings either_by puts ◌followed_by◌ begins_or_waits
  begins ring alone = by_time (is_in_time Round l.did.tick (port_before node l older)) (row_stands node lines table l older place Round ring) where
    wait : Bool
    wait = waits l.port l.did.tick (before_line node l older)

    by_time : (b : Bool) → Stands node lines table l older place (if b then (puts (Ring Round) followed_by begins_or_waits wait) l.did.tick
        (port_before node l older) else (puts (Late Round) followed_by arms Round ROUND) l.did.tick (port_before node l older)) →
        DoesNext (round_begins l.did.tick Rung) l older lines
    by_time true w = subst (λ b. DoesNext (begins_or_waits b l.did.tick Rung) l older lines) alone
        (rest_stands node lines table l older place (Ring Round) (begins_or_waits wait l.did.tick Rung) w)
    by_time false w = late_no node lines table l older place Round Round
        (arms Round ROUND l.did.tick (grown l.did.tick (port_before node l older) (Late Round ∷ []))) ring w

-- a round tells each other peer that its port is master
round_tells : (x : ℕ) (past : Past) (p : PeerId) → is_among p past.peers ≡ true → (p.0 == past.own.0) ≡ false →
    Among (post_of MasterUp 0 past.name p) (round_begins x past)
unfolding round_begins arms posts_to_others ◌followed_by◌
round_tells x past p member other =
    let m = posted_to MasterUp 0 past.name p past.own past.peers member other in
    let rest = asks_slaves x (grown x past (Arm Round (x + ROUND) ∷ Arm Probe (x + PROBE) ∷ Arm CloseAlarm (x + CLOSE) ∷
    map (post_of MasterUp 0 past.name) (others past.own past.peers))) in
    let told = among_more (post_of MasterUp 0 past.name p) (map (post_of MasterUp 0 past.name) (others past.own past.peers)) rest m in
    record {
      front = Arm Round (x + ROUND) ∷ Arm Probe (x + PROBE) ∷ Arm CloseAlarm (x + CLOSE) ∷ told.front;
      back = told.back;
      is = ap (λ acts. Arm Round (x + ROUND) ∷ Arm Probe (x + PROBE) ∷ Arm CloseAlarm (x + CLOSE) ∷ acts) told.is;
    }

module _ {clocks : Clocks} {header : HeaderValue} {setting : Setting} (set : SetByClocks clocks header setting) (world : List Line)
    (table : ByTable header world) (fits : Fits setting world) (wakes : AllWake (manner_of header) world) (late : ℕ) (attended : Attended late world)
    (slack : late ≤ SLACK) (t : ℕ) where
  module _ (n x : ℕ) (q : Port) (p : PeerId) (l : Line) (older : List Line) (alone : HasOnePort header n q) (leads : LeadsOn n q (l ∷ older) world)
      (member : OtherMember setting n q p) (from : setting.tick n l.did.step.at ≤ x) (long : x + (ROUND + late) < setting.tick n t)
      (told : Told late setting t n world) where
    abbrev M : Manner
    M = manner_of header n

    abbrev Whole : List Seen
    Whole = view q (of n world)

    abbrev Early : List Seen
    Early = view q (of n (l ∷ older))

    early-in : Within Early Whole
    early-in = view_within q (of n (l ∷ older)) (of n world) (Within_of n (l ∷ older) world leads.place)

    acts : AlarmsFit M Whole
    acts = (wakes n q).acts

    rises : Rising Whole
    rises = rising setting q (of n world) (own_fits setting n world fits)

    -- the port's ticks at the place
    early-tick : tick_of (plain Early) ≤ x
    early-tick =
        let fit = fits_at setting (l ∷ older) world fits leads.place in
        let low = of_tick setting n (l ∷ older) fit in
        let same : tick_of (plain Early) ≡ tick_of (dids (of n (l ∷ older))) = ap tick_of (plain_view q (of n (l ∷ older))) in
        omega (arith, low, same, from)

    first-arm : FirstArm x Whole
    first-arm = elim (first x Whole) [
      | inl f ↦ f
      | inr none ↦
          let master : role Whole ≡ Master = role_kept Early Whole early-in leads.stays ∙ leads.master in
          let a : ArmedWithin Round (ROUND + late) (setting.tick n t) Whole =
          (told_in_time (manner_of header) late setting t n world wakes told q).rounds master in
          let old = none a.arm a.idle a.last in
          let since = a.since in
          absurd (omega (arith, old, since, long))
    ]

    abbrev Arm-past : List Seen
    Arm-past = first-arm.before

    arm-fits : AlarmsFit M (Here first-arm.arm ∷ Arm-past)
    arm-fits = alarms_within M (Here first-arm.arm ∷ Arm-past) Whole first-arm.place acts

    round-fits : ArmFits Round first-arm.arm Arm-past first-arm.at
    round-fits = subst (λ d. AlarmFits d first-arm.arm Arm-past) first-arm.deed arm-fits.0

    n-by : Newest Arm-past
    n-by = newest_by Arm-past round-fits.1

    -- the place of the arming
    arm-at : Located n q world first-arm.arm Arm-past
    arm-at = locate n q world first-arm.arm Arm-past (ap is_shared first-arm.deed) first-arm.place

    -- the deed before it is of the same tick
    ring-place : Within (Here n-by.ring ∷ n-by.idle) Whole
    ring-place = subst (λ s. Within s Whole) n-by.is (Within_tail (Here first-arm.arm) Arm-past Whole first-arm.place)

    same : n-by.ring.tick ≡ first-arm.arm.tick
    same =
        let lines = of n arm-at.older in
        let is : view q lines ≡ Here n-by.ring ∷ n-by.idle = arm-at.before ∙ n-by.is in
        let tick : first-arm.arm.tick ≡ newest (of first-arm.arm.step.node arm-at.older) =
        same_tick setting (line_on q first-arm.arm) arm-at.older (Arm Round first-arm.at) first-arm.deed
        (fits_in setting (line_on q first-arm.arm) arm-at.older world fits arm-at.place)
        (fits_at setting arm-at.older world fits (Within_tail (line_on q first-arm.arm) arm-at.older world arm-at.place)) in
        let own : newest (of first-arm.arm.step.node arm-at.older) ≡ newest lines = ap (λ k. newest (of k arm-at.older)) arm-at.node in
        let head : newest lines ≡ tick_of (plain (view q lines)) = newest_view q lines in
        let last : tick_of (plain (view q lines)) ≡ n-by.ring.tick = ap (λ s. tick_of (plain s)) is in
        sym (tick ∙ own ∙ head ∙ last)

    -- what stands at a tick after x stands after the place
    after-early : (d : Did) (before : List Seen) → x < d.tick → Within (Here d ∷ before) Whole → Within Early before
    after-early d before late_tick w = elim (Within_comparable Early (Here d ∷ before) Whole early-in w) [
      | inl (inl e) ↦ absurd (let tick : tick_of (plain Early) ≡ d.tick = ap (λ s. tick_of (plain s)) e in let low = early-tick in omega (
        arith,
        tick,
        low,
        late_tick,
      ))
      | inl (inr v) ↦ v
      | inr v ↦ absurd (let le = tick_before Early (Here d ∷ before) Early v (rising_within Early Whole early-in rises) in let low = early-tick in
          omega (arith, le, low, late_tick))
    ]

    ring-late : x < n-by.ring.tick
    ring-late = let less = first-arm.late in let e = same in omega (arith, less, e)

    ring-after : Within Early n-by.idle
    ring-after = after-early n-by.ring n-by.idle ring-late ring-place

    ring-at : (is_shared n-by.ring.deed ≡ false) → Located n q world n-by.ring n-by.idle
    ring-at own = locate n q world n-by.ring n-by.idle own ring-place

    rang : n-by.ring.deed ≡ Acts (Ring Round)
    rang = by n-by.by where
      by : RangBy n-by.ring → n-by.ring.deed ≡ Acts (Ring Round)
      by (Won is) = absurd (leads.stays (record { change = n-by.ring; before = n-by.idle; place = ring-place; since = ring-after; is = ap is_change is }))
      by (Rang is) = is
      by (WasLate is) =
          let r = ring-at (ap is_shared is) in
          absurd (Everywhere_at _ (line_on q n-by.ring) r.older world (never_late (manner_of header) setting late world fits wakes attended slack) r.place Round
          is)

    ring-line : Located n q world n-by.ring n-by.idle
    ring-line = ring-at (ap is_shared rang)

    abbrev L : Line
    L = line_on q n-by.ring

    -- it rings in time
    ring-soon : n-by.ring.tick ≤ x + (ROUND + late)
    ring-soon =
        let ring-fits = (alarms_within M (Here n-by.ring ∷ n-by.idle) Whole ring-place acts) in
        let fit = subst (λ d. AlarmFits d n-by.ring n-by.idle) rang ring-fits.0 in
        let idle-fits = ring-fits.1.1 in
        let a : PlaceOf Round fit.at (last_arm Round n-by.idle) = armed_place M Round fit.at n-by.idle idle-fits fit.armed_is in
        let before : last_arm Round Arm-past ≡ Here a.arm ∷ a.idle = ap (last_arm Round) n-by.is ∙ ap (λ d. last_arm_after Round d (Here n-by.ring ∷ n-by.idle)
        (last_arm Round n-by.idle)) rang ∙ a.last in
        let old = first-arm.none a.arm a.idle before in
        let ahead = ahead_most Round a.arm a.idle fit.at a.fits in
        let lines = of n ring-line.older in
        let older_fits = fits_at setting ring-line.older world fits (Within_tail L ring-line.older world ring-line.place) in
        let older_attended = Everywhere_within _ ring-line.older world attended (Within_tail L ring-line.older world ring-line.place) in
        let soon = on_time setting late ring-line.older older_fits older_attended M n q (subst (λ s. AlarmsFit M s) (sym ring-line.before) idle-fits) Round
        fit.at
        (subst (λ s. deadline (armed s) Round ≡ Some fit.at) (sym ring-line.before) fit.armed_is) in
        let tick : n-by.ring.tick ≡ newest (of n-by.ring.step.node ring-line.older) = same_tick setting L ring-line.older (Ring Round) rang
        (fits_in setting L ring-line.older world fits ring-line.place) older_fits in
        let own : newest (of n-by.ring.step.node ring-line.older) ≡ newest lines = ap (λ k. newest (of k ring-line.older)) ring-line.node in
        omega (arith, old, ahead, soon, tick, own)

    port_is : PortIs header setting n q
    port_is = member_port set n q p member.member (differ p.0 n member.other)

    own-ring : Within (L ∷ of n ring-line.older) (of n world)
    own-ring = own_place n L ring-line.older world ring-line.node ring-line.place

    abbrev Past_there : Past
    Past_there = grown n-by.ring.tick (port_before (node_in header n) L (of n ring-line.older)) (Ring Round ∷ [])

    waits-not : waits q n-by.ring.tick (before_line (node_in header n) L (of n ring-line.older)) ≡ false
    waits-not = ap (any_port (goes_on (before_line (node_in header n) L (of n ring-line.older)))) alone

    next : DoesNext (round_begins n-by.ring.tick Past_there) L (of n ring-line.older) (of n world)
    next = begins (node_in header n) (of n world) (table n) L (of n ring-line.older) own-ring rang waits-not

    tells : Among (post_of MasterUp 0 (node_in header n).name p) (round_begins n-by.ring.tick Past_there)
    tells = round_tells n-by.ring.tick Past_there p (ap (is_among p) port_is.peers ∙ member.member) (ap (λ k. p.0 == k) port_is.own ∙ member.other)

    abbrev Tell : Line
    Tell = line_of n-by.ring.step n-by.ring.tick q (Acts (post_of MasterUp 0 (node_in header n).name p))

    abbrev Own : List Line
    Own = joined n-by.ring.step n-by.ring.tick (placed q tells.front) (L ∷ of n ring-line.older)

    tell-place : WorldPlace n Tell Own world
    tell-place = world_place n Tell Own world (act_place n-by.ring.step n-by.ring.tick q (post_of MasterUp 0 (node_in header n).name p)
        (round_begins n-by.ring.tick Past_there) (L ∷ of n ring-line.older) (of n world) tells next)

    ring-before : Within (L ∷ ring-line.older) tell-place.older
    ring-before = in_order n L ring-line.older Tell tell-place.older world ring-line.place tell-place.place
        (subst (λ ls. Within (L ∷ of n ring-line.older) ls) (sym tell-place.own_is)
        (within_joined n-by.ring.step n-by.ring.tick (placed q tells.front) (L ∷ of n ring-line.older) (L ∷ of n ring-line.older)
        (Within_all (L ∷ of n ring-line.older))))

    early-before : Within (l ∷ older) ring-line.older
    early-before = elim (Within_comparable (l ∷ older) (L ∷ ring-line.older) world leads.place ring-line.place) [
      | inl (inl e) ↦ absurd (too_early (subst (λ s. Within (L ∷ ring-line.older) s) (sym e) (Within_all (L ∷ ring-line.older))))
      | inl (inr v) ↦ v
      | inr v ↦ absurd (too_early v)
    ] where
      too_early : Within (L ∷ ring-line.older) (l ∷ older) → ⊥
      too_early v =
          let seen : Within (Here n-by.ring ∷ view q (of n ring-line.older)) Early = seen_in n L ring-line.older (l ∷ older) ring-line.node v in
          let le = tick_before Early (Here n-by.ring ∷ view q (of n ring-line.older)) Early seen (rising_within Early Whole early-in rises) in
          let low = early-tick in
          let less = ring-late in
          omega (arith, le, low, less)

    pub tells_within : TellsWithin late x n q p (l ∷ older) world
    tells_within = record {
      line = Tell;
      before = tell-place.older;
      place = tell-place.place;
      since = Within_through (l ∷ older) (L ∷ ring-line.older) tell-place.older (inr early-before) ring-before;
      node = ring-line.node;
      port = refl;
      name = (node_in header n).name;
      deed = refl;
      after = ring-late;
      soon = ring-soon;
    }

  pub masters_tell : MastersTell header setting late t world
  masters_tell n x q p l older alone leads member from long told = tells_within n x q p l older alone leads member from long told

pub clocked_runs_tell : ClockedRunsTell
clocked_runs_tell clocks header setting events late t set possible attended slack =
    masters_tell set (run_by clocks header events) (clocked_runs_by_table clocks header events) (clocked_runs_fit clocks header setting events set possible).0
    (clocked_runs_wake clocks header events).1 late attended slack t

pub runs_tell : RunsTell
runs_tell header setting events late t set possible = subst (λ h. Attended late h → late ≤ SLACK → MastersTell header setting late t h)
    (runs_by_own_clocks header events)
    (clocked_runs_tell (clocks_of header) header setting events late t (set_own header setting set) (possible_own header events possible))
