-- A candidate wins no sooner than WINDOW after it stood for election.
use Rattle.std.specs.Prelude.{◌≡◌, ◌≤◌, ℕ, ◌+◌, List, ◌∷◌}
use Rattle.tsp_rules.specs.Values.{Become, Master, Event, Port, WINDOW}
use Rattle.tsp_base.specs.Words.{Acts, Deed, Did, HeaderValue, Here, Line, Seen, of, stood, view}
use Rattle.tsp_promises.specs.Setting.{Setting}
use Rattle.tsp_run.specs.Clocked.{Clocks, PossibleBy, SetByClocks, run_by}
use Rattle.tsp_run.specs.{Possible.Possible, Run.run, Setting.SetBy}
use Rattle.tsp_progress.specs.GivenUp.{Owes}

-- the port changed its role at least WINDOW ticks (5 s) before: it stood for election then
pub record StoodLong (here : Did) (before : List Seen) : Type 0 where
  pub start : Did
  pub idle : List Seen
  pub stood_is : stood before ≡ Here start ∷ idle
  pub long : start.tick + WINDOW ≤ here.tick

-- what a deed owes, if the port wins by it
abbrev pub WonFits : Deed → Did → List Seen → Type 0
WonFits (Acts (Become Master)) here before = StoodLong here before
WonFits _ here before = Unit {0}

-- so each port of each node wins
abbrev pub WinsLate : List Line → Type 0
WinsLate world = (n : ℕ) (q : Port) → Owes WonFits (view q (of n world))

-- in every possible run
abbrev pub RunsWinLate : Type 0
RunsWinLate = (header : HeaderValue) (setting : Setting) (events : List Event) → SetBy header setting → Possible header events → WinsLate (run header events)

-- by any clocks
abbrev pub ClockedRunsWinLate : Type 0
ClockedRunsWinLate = (clocks : Clocks) (header : HeaderValue) (setting : Setting) (events : List Event) → SetByClocks clocks header setting →
    PossibleBy clocks header events → WinsLate (run_by clocks header events)
