-- What each act on an alarm owes to its port's past.
use Rattle.std.specs.Prelude.{◌≡◌, ◌≢◌, ◌≤◌, ◌<◌, ◌⊎◌, ℕ, ◌+◌, ℤ, nat_abs, ◌==◌, ◌&&◌, nat_le, not, Bool, true, false, List, [], ◌∷◌, Some}
use Rattle.tsp_rules.specs.Values.{Become, Arm, Ring, Late, Back, Abandon, Close, Correct, Alarm, Quiet, Window, Elect, Search, Round, Probe, CloseAlarm}
use Rattle.tsp_rules.specs.Values.{ResolveAlarm}
use Rattle.tsp_rules.specs.Values.{PeerId, Role, Loose, Candidate, Master, QUIET, WINDOW, PROBE, CLOSE, ROUND, WAIT, SLACK, HOLD, ELECT_MIN}
use Rattle.tsp_rules.specs.Guards.{delay}
use Rattle.tsp_base.specs.Words.{Deed, Acts, Did, Held, Seen, Here, Elsewhere, armed, deadline, held, is_past, plain, word}

-- what the newest deed here is
abbrev pub newest_is : (Deed → Bool) → List Seen → Bool
newest_is test [] = false
newest_is test (Here d ∷ before) = test d.deed
newest_is test (Elsewhere d ∷ before) = false

-- deeds after which Round is armed
abbrev pub rounds_by : Deed → Bool
rounds_by (Acts (Become Master)) = true
rounds_by (Acts (Ring Round)) = true
rounds_by (Acts (Late Round)) = true
rounds_by _ = false

-- how long ahead an alarm is armed: Elect for the node's delay; Round for ROUND, or for WAIT where another port has a
-- round going; each other one always as long
abbrev pub ArmFits : Alarm → Did → List Seen → ℕ → Type 0
ArmFits Quiet here before at = at ≡ here.tick + QUIET
ArmFits Search here before at = at ≡ here.tick + WINDOW
ArmFits Elect here before at = at ≡ here.tick + delay (word (plain before))
ArmFits Window here before at = at ≡ here.tick + WINDOW
ArmFits Probe here before at = at ≡ here.tick + PROBE
ArmFits CloseAlarm here before at = at ≡ here.tick + CLOSE
ArmFits ResolveAlarm here before at = at ≡ here.tick + WINDOW
ArmFits Round here before at = ((at ≡ here.tick + ROUND) ⊎ (at ≡ here.tick + WAIT)) × (newest_is rounds_by before ≡ true)

-- an alarm rings when it is due, and at most SLACK ticks after; but Quiet rings however late it is
pub record RingFits (alarm : Alarm) (here : Did) (before : List Seen) : Type 0 where
  pub at : ℕ
  pub armed_is : deadline (armed before) alarm ≡ Some at
  pub due : at ≤ here.tick
  pub soon : alarm ≢ Quiet → here.tick ≤ at + SLACK

-- an alarm other than Quiet is handled late where more than SLACK ticks have passed since it was due
pub record LateFits (alarm : Alarm) (here : Did) (before : List Seen) : Type 0 where
  pub at : ℕ
  pub armed_is : deadline (armed before) alarm ≡ Some at
  pub late : at + SLACK < here.tick
  pub other : alarm ≢ Quiet

-- what a deed owes, if it is an act on an alarm
abbrev pub AlarmFits : Deed → Did → List Seen → Type 0
AlarmFits (Acts (Arm alarm at)) here before = ArmFits alarm here before at
AlarmFits (Acts (Ring alarm)) here before = RingFits alarm here before
AlarmFits (Acts (Late alarm)) here before = LateFits alarm here before
AlarmFits _ here before = Unit {0}

-- what of a node's setup its port's steps rest on: whether it may be master, and whether its elections are strict
pub record Manner : Type 0 where
  pub may : Bool
  pub strict : Bool

-- the next deed arms this alarm
abbrev pub Arms : Alarm → Deed → Type 0
Arms alarm next = (at : ℕ) × (next ≡ Acts (Arm alarm at))

-- boot and last Quit are ELECT_MIN ticks ago at tick x, and the last backing HOLD ticks
pub record IsFree (x : ℕ) (h : Held) : Type 0 where
  pub boot : h.boot + ELECT_MIN ≤ x
  pub quit : is_past h.quit ELECT_MIN x ≡ true
  pub back : (b : ℕ) (p : PeerId) → h.back ≡ Some (b, p) → b + HOLD ≤ x

-- after Elect rang the port stands for election, where it may and is free to; else it may give up its master, and searches
pub record ElectNext (m : Manner) (x : ℕ) (older : List Seen) (next : Deed) : Type 0 where
  pub stands : m.may ≡ true → IsFree x (held older) → next ≡ Acts (Become Candidate)
  pub either : (next ≡ Acts (Become Candidate)) ⊎ ((next ≡ Acts (Become Loose)) ⊎ Arms Search next)

-- after Window rang the port is master, or, where elections are strict, perhaps Loose
pub record WindowNext (m : Manner) (next : Deed) : Type 0 where
  pub wins : m.strict ≡ false → next ≡ Acts (Become Master)
  pub either : (next ≡ Acts (Become Master)) ⊎ (next ≡ Acts (Become Loose))

-- the next deed is a Close
abbrev pub IsClose : Deed → Type 0
IsClose next = (count : ℕ) × ((lo : ℤ) × ((size : ℤ) × ((mean : ℤ) × (next ≡ Acts (Close count lo size mean)))))

-- after a Close with a mean other than 0 the clock is moved by the mean
abbrev pub CloseNext : Bool → ℤ → Deed → Type 0
CloseNext true mean next = Unit {0}
CloseNext false mean next = (stepped : Bool) × ((shown : ℤ) × (next ≡ Acts (Correct mean stepped shown)))

abbrev pub is_zero : ℤ → Bool
is_zero mean = nat_abs mean == 0

abbrev pub is_candidate : Role → Bool
is_candidate Candidate = true
is_candidate _ = false

abbrev pub stands_by : Deed → Bool
stands_by (Acts (Become r)) = is_candidate r
stands_by _ = false

-- whether the newest deed is that the port stands for election
abbrev pub stands_now : List Seen → Bool
stands_now [] = false
stands_now (Here d ∷ before) = stands_by d.deed
stands_now (Elsewhere d ∷ before) = false

-- after a backing Elect is armed anew; after that of the port itself, when it stands for election, Window is armed
abbrev pub BackNext : Bool → Deed → Type 0
BackNext true next = Arms Window next
BackNext false next = Arms Elect next

-- who stands for election backs itself
abbrev pub StandNext : Bool → Deed → Type 0
StandNext true next = (p : PeerId) × (next ≡ Acts (Back p))
StandNext false next = Unit {0}

abbrev pub rings_round : Deed → Bool
rings_round (Acts (Ring Round)) = true
rings_round _ = false

abbrev pub arms_round_by : Deed → Bool
arms_round_by (Acts (Arm Round at)) = true
arms_round_by _ = false

-- whether a round begins: Round rang, and is armed for ROUND ticks from tick x
abbrev pub begins_round : List Seen → ℕ → ℕ → Bool
begins_round older x at = newest_is rings_round older && nat_le (x + ROUND) at

-- a round begins with Round, Probe and Close
abbrev pub RoundNext : Bool → Deed → Type 0
RoundNext true next = Arms Probe next
RoundNext false next = Unit {0}

abbrev pub ProbeNext : Bool → Deed → Type 0
ProbeNext true next = Arms CloseAlarm next
ProbeNext false next = Unit {0}

-- what a deed at tick x, and what was seen before it, ask of the next deed
abbrev pub NextFits : Manner → Deed → ℕ → List Seen → Deed → Type 0
NextFits m (Acts (Ring Quiet)) x older next = next ≡ Acts (Become Loose)
NextFits m (Acts (Ring Search)) x older next = Arms Elect next
NextFits m (Acts (Late Search)) x older next = Arms Elect next
NextFits m (Acts (Ring Elect)) x older next = ElectNext m x older next
NextFits m (Acts (Late Elect)) x older next = Arms Elect next
NextFits m (Acts (Ring Window)) x older next = WindowNext m next
NextFits m (Acts (Late Window)) x older next = next ≡ Acts (Become Loose)
NextFits m (Acts (Ring Round)) x older next = Arms Round next
NextFits m (Acts (Late Round)) x older next = Arms Round next
NextFits m (Acts (Ring CloseAlarm)) x older next = IsClose next ⊎ (next ≡ Acts Abandon)
NextFits m (Acts (Late CloseAlarm)) x older next = next ≡ Acts Abandon
NextFits m (Acts (Late Probe)) x older next = next ≡ Acts Abandon
NextFits m (Acts (Arm Round at)) x older next = RoundNext (begins_round older x at) next
NextFits m (Acts (Arm Probe at)) x older next = ProbeNext (newest_is arms_round_by older) next
NextFits m (Acts (Close count lo size mean)) x older next = CloseNext (is_zero mean) mean next
NextFits m (Acts (Become r)) x older next = StandNext (is_candidate r) next
NextFits m (Acts (Back p)) x older next = BackNext (stands_now older) next
NextFits m _ x older next = Unit {0}

-- whether a deed at tick x asks something of the next one, after this
abbrev pub asks_next : Deed → ℕ → List Seen → Bool
asks_next (Acts (Ring Probe)) x older = false
asks_next (Acts (Ring ResolveAlarm)) x older = false
asks_next (Acts (Ring alarm)) x older = true
asks_next (Acts (Late Quiet)) x older = false
asks_next (Acts (Late ResolveAlarm)) x older = false
asks_next (Acts (Late alarm)) x older = true
asks_next (Acts (Arm Round at)) x older = begins_round older x at
asks_next (Acts (Arm Probe at)) x older = newest_is arms_round_by older
asks_next (Acts (Close count lo size mean)) x older = not (is_zero mean)
asks_next (Acts (Become r)) x older = is_candidate r
asks_next (Acts (Back p)) x older = true
asks_next _ x older = false

-- whether the newest deed here asks something of the next one
abbrev pub owes_next : List Seen → Bool
owes_next [] = false
owes_next (Here d ∷ before) = asks_next d.deed d.tick before
owes_next (Elsewhere d ∷ before) = false

-- the next deed here is as the one before it asks
abbrev pub NextTo : Manner → List Seen → Deed → Type 0
NextTo m [] next = Unit {0}
NextTo m (Here d ∷ older) next = NextFits m d.deed d.tick older next
NextTo m (Elsewhere d ∷ older) next = Unit {0}

-- each act on an alarm of this port came in its time, and was followed at once as it asks
abbrev pub AlarmsFit : Manner → List Seen → Type 0
AlarmsFit m [] = Unit {0}
AlarmsFit m (Here d ∷ before) = AlarmFits d.deed d before × (NextTo m before d.deed × AlarmsFit m before)
AlarmsFit m (Elsewhere d ∷ before) = (owes_next before ≡ false) × AlarmsFit m before
