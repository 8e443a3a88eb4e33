-- No send is given up early.
use Rattle.std.specs.Prelude.{◌≡◌, ◌≤◌, ℕ, ◌+◌, ◌*◌, List, [], ◌∷◌, Some}
use Rattle.tsp_rules.specs.Values.{Gave, Event, PeerId, Port, RETRY, TRIES}
use Rattle.tsp_base.specs.Words.{Acts, Deed, Did, Elsewhere, HeaderValue, Here, Line, Seen, Sending, of, open_send, view}
use Rattle.tsp_run.specs.{Clocked.Clocks, Clocked.run_by, Run.run}

-- each deed of this port owes this to the port's past before it
abbrev pub Owes : (Deed → Did → List Seen → Type 0) → List Seen → Type 0
Owes debt [] = Unit {0}
Owes debt (Here d ∷ before) = debt d.deed d before × Owes debt before
Owes debt (Elsewhere d ∷ before) = Owes debt before

-- the send to p was open, and began at least TRIES times RETRY (3 s) before
pub record IsOld (p : PeerId) (here : Did) (before : List Seen) : Type 0 where
  pub sending : Sending
  pub open_is : open_send p before ≡ Some sending
  pub old : sending.began + TRIES * RETRY ≤ here.tick

-- what a deed owes, if it gives up a send
abbrev pub GaveFits : Deed → Did → List Seen → Type 0
GaveFits (Acts (Gave p)) here before = IsOld p here before
GaveFits _ here before = Unit {0}

-- so each port of each node gives up no send that is younger
abbrev pub GivesUpLate : List Line → Type 0
GivesUpLate world = (n : ℕ) (q : Port) → Owes GaveFits (view q (of n world))

-- in every run, whatever octets come and whenever
abbrev pub RunsGiveUpLate : Type 0
RunsGiveUpLate = (header : HeaderValue) (events : List Event) → GivesUpLate (run header events)

-- and in every run by any clocks
abbrev pub ClockedRunsGiveUpLate : Type 0
ClockedRunsGiveUpLate = (clocks : Clocks) (header : HeaderValue) (events : List Event) → GivesUpLate (run_by clocks header events)
