-- What ends a place in a master's table of slaves, and what begins one.
use Rattle.std.specs.Prelude.{◌≡◌, ◌<◌, ◌⊎◌, ℕ, ℤ, true, false, List, ◌∷◌, None, Some}
use Rattle.tsp_rules.specs.Values.{Close, Gave, Join, Leave, SlaveUp, Message, PeerId, Place, Port, Master, Event}
use Rattle.tsp_base.specs.Words.{Acts, Deed, Did, HeaderValue, Here, Line, MessageValue, Receives, Seen, Sending, TakesFrom, correct_tick, estimate, in_table}
use Rattle.tsp_base.specs.Words.{is_correction}
use Rattle.tsp_base.specs.Words.{is_measured, of, open_send, plain, role, sets_date, view}
use Rattle.tsp_promises.specs.{StepFacts.closed}
use Rattle.tsp_run.specs.{Clocked.Clocks, Clocked.run_by, Run.run}
use Rattle.tsp_progress.specs.GivenUp.{Owes}

-- the deed right before gave up a correction to p
pub record GaveCorrection (p : PeerId) (here : Did) (before : List Seen) : Type 0 where
  pub gave : Did
  pub older : List Seen
  pub is : before ≡ Here gave ∷ older
  pub step : gave.step ≡ here.step
  pub deed : gave.deed ≡ Acts (Gave p)
  pub sending : Sending
  pub open_is : open_send p older ≡ Some sending
  pub kind : is_correction sending.message.kind ≡ true

-- the step closed a round that measured p, and has no sample of it
pub record Unsampled (p : PeerId) (here : Did) (before : List Seen) : Type 0 where
  pub close : Did
  pub past : List Seen
  pub is : closed before ≡ Here close ∷ past
  pub step : close.step ≡ here.step
  pub count : ℕ
  pub lo : ℤ
  pub size : ℤ
  pub mean : ℤ
  pub deed : close.deed ≡ Acts (Close count lo size mean)
  pub measured : is_measured p past ≡ true
  pub none : estimate p past ≡ None

-- the step took a date, at a master, and set the clock to it
pub record SetsDate (here : Did) (before : List Seen) : Type 0 where
  pub from : Place
  pub message : MessageValue
  pub took : TakesFrom before from (Message message)
  pub kind : sets_date message.kind ≡ true
  pub leads : role before ≡ Master
  pub set : correct_tick (plain before) ≡ Some here.tick

-- why p leaves the table: its correction was given up, a round closed without a sample of it, or the date is set
abbrev pub LeavesFor : PeerId → Did → List Seen → Type 0
LeavesFor p here before = GaveCorrection p here before ⊎ (Unsampled p here before ⊎ SetsDate here before)

-- why p joins it: the step took its SLAVEUP with a ticket, at a master in whose table it isn't
pub record JoinsFor (p : PeerId) (before : List Seen) : Type 0 where
  pub message : MessageValue
  pub took : Receives before p (Message message)
  pub kind : message.kind ≡ SlaveUp
  pub ticket : message.number < 32768
  pub leads : role before ≡ Master
  pub new : in_table p before ≡ false

-- what a deed owes, if it takes a slave in, or lets one go
abbrev pub TableFits : Deed → Did → List Seen → Type 0
TableFits (Acts (Leave p)) here before = LeavesFor p here before
TableFits (Acts (Join p)) here before = JoinsFor p before
TableFits _ here before = Unit {0}

-- so it is on each port of each node
abbrev pub TablesLast : List Line → Type 0
TablesLast world = (n : ℕ) (q : Port) → Owes TableFits (view q (of n world))

-- in every run, whatever octets come and whenever
abbrev pub RunsLeave : Type 0
RunsLeave = (header : HeaderValue) (events : List Event) → TablesLast (run header events)

-- and in every run by any clocks
abbrev pub ClockedRunsLeave : Type 0
ClockedRunsLeave = (clocks : Clocks) (header : HeaderValue) (events : List Event) → TablesLast (run_by clocks header events)
