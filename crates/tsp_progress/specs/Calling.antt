-- Who says that it is master and who asks for votes, by whom a port comes to follow another, and what makes a follower wait anew.
use Rattle.std.specs.Prelude.{◌≡◌, ◌⊎◌, ℕ, Bool, true, false, List}
use Rattle.tsp_rules.specs.Values.{Post, Become, Arm, Late, Elect, Message, Kind, AdjTime, Election, MasterAck, MasterUp, QuitKind, SetTime, PeerId, Peer, Port}
use Rattle.tsp_rules.specs.Values.{Event, Role, Follow, Candidate, Master}
use Rattle.tsp_base.specs.Words.{Acts, Deed, Did, HeaderValue, Line, MessageValue, Receives, Seen, of, role, view}
use Rattle.tsp_promises.specs.Setting.{Setting}
use Rattle.tsp_run.specs.Clocked.{Clocks, PossibleBy, SetByClocks, run_by}
use Rattle.tsp_run.specs.{Possible.Possible, Run.run, Setting.SetBy}
use Rattle.tsp_progress.specs.{AlarmsFit.newest_is, GivenUp.Owes}

-- kinds of messages by which a port comes to follow their sender
abbrev pub is_call : Kind → Bool
is_call MasterUp = true
is_call MasterAck = true
is_call QuitKind = true
is_call _ = false

-- kinds of messages of masters alone
abbrev pub is_masters : Kind → Bool
is_masters AdjTime = true
is_masters SetTime = true
is_masters k = is_call k

-- the step has taken a message of peer p of one of these kinds
pub record TookSome (kinds : Kind → Bool) (p : PeerId) (before : List Seen) : Type 0 where
  pub message : MessageValue
  pub took : Receives before p (Message message)
  pub kind_is : kinds message.kind ≡ true

-- the step has taken an ELECTION of some peer
pub record TookVote (before : List Seen) : Type 0 where
  pub from : PeerId
  pub message : MessageValue
  pub took : Receives before from (Message message)
  pub kind_is : message.kind ≡ Election

-- the deed that says that Elect came late
abbrev pub lates_by : Deed → Bool
lates_by (Acts (Late Elect)) = true
lates_by _ = false

-- a follower arms its Elect by what its master says, for a candidate, or when it came late
abbrev pub WaitFits : Role → List Seen → Type 0
WaitFits (Follow q) before = TookSome is_masters q before ⊎ (TookVote before ⊎ (newest_is lates_by before ≡ true))
WaitFits _ before = Unit {0}

-- what a deed owes: who follows p was called by it, only a master calls, and only a candidate asks for votes
abbrev pub CallFits : Deed → Did → List Seen → Type 0
CallFits (Acts (Become (Follow p))) here before = TookSome is_call p before
CallFits (Acts (Arm Elect at)) here before = WaitFits (role before) before
CallFits (Acts (Post (Peer p) (Message m))) here before = (is_call m.kind ≡ true → role before ≡ Master) × (m.kind ≡ Election → role before ≡ Candidate)
CallFits _ here before = Unit {0}

-- so it is on each port of each node
abbrev pub CallsFit : List Line → Type 0
CallsFit world = (n : ℕ) (q : Port) → Owes CallFits (view q (of n world))

-- in each possible run
abbrev pub RunsCall : Type 0
RunsCall = (header : HeaderValue) (setting : Setting) (events : List Event) → SetBy header setting → Possible header events →
    CallsFit (run header events)

-- by any clocks
abbrev pub ClockedRunsCall : Type 0
ClockedRunsCall = (clocks : Clocks) (header : HeaderValue) (setting : Setting) (events : List Event) → SetByClocks clocks header setting →
    PossibleBy clocks header events → CallsFit (run_by clocks header events)
