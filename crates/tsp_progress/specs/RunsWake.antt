-- What runs have armed.
use Rattle.std.specs.Prelude.{ℕ, List}
use Rattle.tsp_rules.specs.Values.{Event}
use Rattle.tsp_base.specs.Words.{HeaderValue}
use Rattle.tsp_run.specs.{Clocked.Clocks, Clocked.run_by, Run.run, Setup.node_line}
use Rattle.tsp_progress.specs.{AlarmsFit.Manner, Wakes.AllWake, Wakes.Woken}

-- what a header says of a node: whether it may be master, and whether its elections are strict
abbrev pub manner_of : HeaderValue → ℕ → Manner
manner_of header n = record { may = (node_line header n).may; strict = header.strict }

-- in the history of every schedule, also of one with refused events, each port has armed what its role asks for wherever
-- a step of its node begins, and at the end
abbrev pub RunsWake : Type 0
RunsWake = (header : HeaderValue) (events : List Event) → Woken (manner_of header) (run header events) × AllWake (manner_of header) (run header events)

-- so it is by any clocks
abbrev pub ClockedRunsWake : Type 0
ClockedRunsWake = (clocks : Clocks) (header : HeaderValue) (events : List Event) →
    Woken (manner_of header) (run_by clocks header events) × AllWake (manner_of header) (run_by clocks header events)
