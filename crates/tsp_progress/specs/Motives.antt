-- Why a port backs somebody, waits, searches, stands for election or gives up: what stands before it, or what its step took; and who says what.
use Rattle.std.specs.Prelude.{◌≡◌, ◌⊎◌, ℕ, Bool, true, false, List, [], ◌∷◌}
use Rattle.tsp_rules.specs.Values.{Arm, Back, Become, Post, Ring, Elect, Quiet, Search, Candidate, Loose, Role, PeerId, Peer, Port, Message, Kind}
use Rattle.tsp_rules.specs.Values.{AdjTime, SetTime, MasterUp, MasterAck, QuitKind, Election, Test, Event}
use Rattle.tsp_rules.specs.{CommonRows.is_idle, Guards.is_master, Guards.is_starting_role}
use Rattle.tsp_base.specs.Words.{Acts, Deed, Did, Elsewhere, HeaderValue, Here, Line, MessageValue, Receives, Seen, of, role, view}
use Rattle.tsp_run.specs.{Clocked.Clocks, Clocked.run_by, Run.run}
use Rattle.tsp_progress.specs.AlarmsFit.{is_candidate, newest_is, stands_now}
use Rattle.tsp_progress.specs.{Calling.is_masters, CausesFit.backs_by, CausesFit.elects_by, CausesFit.seeks_by, GivenUp.Owes, RolesLast.TookKind}
use Rattle.tsp_progress.specs.{RolesLast.TookOf}

-- which role may send a message of this kind: those are a master's, and questions for votes a candidate's
abbrev pub may_say : Kind → Role → Bool
may_say AdjTime r = is_master r
may_say SetTime r = is_master r
may_say MasterUp r = is_master r
may_say MasterAck r = is_master r
may_say QuitKind r = is_master r
may_say Election r = is_candidate r
may_say _ r = true

-- the step has taken such a message of a peer
pub record TookCall (before : List Seen) : Type 0 where
  pub from : PeerId
  pub message : MessageValue
  pub took : Receives before from (Message message)
  pub call : is_masters message.kind ≡ true

-- acts on the alarms after which a port becomes Loose and searches
abbrev pub frees_by : Deed → Bool
frees_by (Acts (Ring Quiet)) = true
frees_by (Acts (Ring Elect)) = true
frees_by _ = false

-- whether a deed, after this, is one after which the port searches: Elect rang, or it became Loose since Elect or Quiet rang
abbrev pub seeks_after : Deed → List Seen → Bool
seeks_after (Acts (Ring Elect)) before = true
seeks_after (Acts (Become Loose)) before = newest_is frees_by before
seeks_after _ before = false

abbrev pub seeks_now : List Seen → Bool
seeks_now [] = false
seeks_now (Here d ∷ before) = seeks_after d.deed before
seeks_now (Elsewhere d ∷ before) = false

-- what a deed owes: who backs somebody took his question, or stands itself; Elect is armed after an alarm, after a backing, or for a master's word;
-- Search is armed when Elect or Quiet rang; who stands does so since Elect rang, or for a TEST; who is Loose or follows becomes Loose only when Elect
-- rang; Quiet rings for a port that is Starting; and each message is that of its sender's role
abbrev pub MotiveFits : Deed → Did → List Seen → Type 0
MotiveFits (Acts (Back p)) here before = TookOf Election p before ⊎ (stands_now before ≡ true)
MotiveFits (Acts (Arm Elect at)) here before = (newest_is seeks_by before ≡ true) ⊎ ((newest_is backs_by before ≡ true) ⊎ TookCall before)
MotiveFits (Acts (Arm Search at)) here before = seeks_now before ≡ true
MotiveFits (Acts (Become Candidate)) here before = (newest_is elects_by before ≡ true) ⊎ TookKind Test before
MotiveFits (Acts (Ring Quiet)) here before = is_starting_role (role before) ≡ true
MotiveFits (Acts (Become Loose)) here before = is_idle (role before) ≡ true → newest_is elects_by before ≡ true
MotiveFits (Acts (Post (Peer p) (Message m))) here before = may_say m.kind (role before) ≡ true
MotiveFits _ here before = Unit {0}

-- so it is on each port of each node
abbrev pub HaveMotives : List Line → Type 0
HaveMotives world = (n : ℕ) (q : Port) → Owes MotiveFits (view q (of n world))

-- in every run, whatever octets come and whenever
abbrev pub RunsHaveMotives : Type 0
RunsHaveMotives = (header : HeaderValue) (events : List Event) → HaveMotives (run header events)

-- by any clocks
abbrev pub ClockedRunsHaveMotives : Type 0
ClockedRunsHaveMotives = (clocks : Clocks) (header : HeaderValue) (events : List Event) → HaveMotives (run_by clocks header events)
