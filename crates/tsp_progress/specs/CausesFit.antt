-- What must have come before an act on an alarm, a change of the role or a Quit.
use Rattle.std.specs.Prelude.{◌≡◌, ◌⊎◌, Bool, true, false, if◌then◌else◌, List, [], ◌∷◌, Option, None, Some}
use Rattle.tsp_rules.specs.Values.{Become, Arm, Ring, Late, Back, Quit, Quiet, Window, Elect, Search, Starting, Loose, Follow, Candidate, Master, Message}
use Rattle.tsp_rules.specs.Values.{Taken, Good, Kind, AdjTime, SetTime, Election, MasterUp, MasterAck, QuitKind, Refuse, Test, LoopKind}
use Rattle.tsp_base.specs.Words.{Deed, Acts, Did, Seen, Here, Elsewhere, Received, held, role, taken}
pub use Rattle.tsp_progress.specs.AlarmsFit.{newest_is}
use Rattle.tsp_progress.specs.AlarmsFit.{stands_now}

-- the deed after which Quiet is armed
abbrev pub starts_by : Deed → Bool
starts_by (Acts (Become Starting)) = true
starts_by _ = false

-- deeds after which Elect is armed
abbrev pub seeks_by : Deed → Bool
seeks_by (Acts (Ring Search)) = true
seeks_by (Acts (Late Search)) = true
seeks_by (Acts (Late Elect)) = true
seeks_by (Acts (Become Loose)) = true
seeks_by _ = false

-- deeds after which Search is armed
abbrev pub searches_by : Deed → Bool
searches_by (Acts (Ring Elect)) = true
searches_by (Acts (Become Loose)) = true
searches_by _ = false

-- deeds after which the port becomes Loose
abbrev pub loosens_by : Deed → Bool
loosens_by (Acts (Ring Quiet)) = true
loosens_by (Acts (Ring Elect)) = true
loosens_by (Acts (Ring Window)) = true
loosens_by (Acts (Late Window)) = true
loosens_by _ = false

-- the deed after which it stands for election
abbrev pub elects_by : Deed → Bool
elects_by (Acts (Ring Elect)) = true
elects_by _ = false

-- and that after which it becomes master
abbrev pub wins_by : Deed → Bool
wins_by (Acts (Ring Window)) = true
wins_by _ = false

abbrev pub backs_by : Deed → Bool
backs_by (Acts (Back p)) = true
backs_by _ = false

-- whether the port has just stood for election and backed itself
abbrev pub backs_itself_now : List Seen → Bool
backs_itself_now [] = false
backs_itself_now (Here d ∷ before) = if backs_by d.deed then stands_now before else false
backs_itself_now (Elsewhere d ∷ before) = false

-- kinds of messages that may end what a port waits for: those of masters and candidates, and what asks a port to stand or to give up. What
-- ports that search, slaves and clients send isn't among them
abbrev pub stirs : Kind → Bool
stirs AdjTime = true
stirs SetTime = true
stirs Election = true
stirs MasterUp = true
stirs MasterAck = true
stirs QuitKind = true
stirs Refuse = true
stirs Test = true
stirs LoopKind = true
stirs _ = false

abbrev pub stirs_in : Taken → Bool
stirs_in (Good (Message m)) = stirs m.kind
stirs_in _ = false

abbrev pub stirred : Option Received → Bool
stirred None = false
stirred (Some r) = stirs_in r.taken

-- the step has taken such a message on this port
abbrev pub Heard : List Seen → Type 0
Heard seen = stirred (taken seen) ≡ true

-- what a deed owes in a step that has taken no such message on this port: Quiet is armed at the boot, Search and Elect after an alarm or a change
-- to Loose, Window when the port stands; the port becomes Loose, a candidate or master after an alarm, and Starting while it is; and it
-- neither follows nor notes a QUIT
abbrev pub Unheard : Deed → Did → List Seen → Type 0
Unheard (Acts (Arm Quiet at)) here before = ((held before).boot ≡ here.tick) × (newest_is starts_by before ≡ true)
Unheard (Acts (Arm Search at)) here before = newest_is searches_by before ≡ true
Unheard (Acts (Arm Elect at)) here before = newest_is seeks_by before ≡ true
Unheard (Acts (Arm Window at)) here before = backs_itself_now before ≡ true
Unheard (Acts (Become Loose)) here before = newest_is loosens_by before ≡ true
Unheard (Acts (Become (Follow p))) here before = ⊥
Unheard (Acts (Become Candidate)) here before = newest_is elects_by before ≡ true
Unheard (Acts (Become Master)) here before = newest_is wins_by before ≡ true
Unheard (Acts (Become Starting)) here before = role before ≡ Starting
Unheard (Acts (Quit p)) here before = ⊥
Unheard _ here before = Unit {0}

-- each deed of this port owes that, unless its step has taken such a message
abbrev pub CausesFit : List Seen → Type 0
CausesFit [] = Unit {0}
CausesFit (Here d ∷ before) = (Heard before ⊎ Unheard d.deed d before) × CausesFit before
CausesFit (Elsewhere d ∷ before) = CausesFit before
