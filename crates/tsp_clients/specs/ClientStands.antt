-- Which pasts the states of these calls stand for.
use Rattle.std.specs.Prelude.{◌≡◌, Bool}
use Rattle.tsp_base.specs.Words.{Past, plain, tracing}
use Rattle.tsp_acks.specs.{Stands.StationStands, declared.station.Station.Station}
use Rattle.tsp_slave.specs.Lasts.{LastValue, Remembers}

-- the node's flag says whether its trace is on
abbrev pub TraceStands : Past → Bool → Type 0
TraceStands past on = tracing (plain past.seen) ≡ on

-- a port's station, and what it remembers of its master
pub record NamingState : Type 0 where
  pub station : Station
  pub last : LastValue

-- both are what the past comes to
pub record NamingStands (past : Past) (state : NamingState) : Type 0 where
  pub station : StationStands past state.station
  pub last : Remembers past state.last

-- a port's station, and its node's flag
pub record TracingState : Type 0 where
  pub station : Station
  pub on : Bool

-- both are what the past comes to
pub record TracingStands (past : Past) (state : TracingState) : Type 0 where
  pub station : StationStands past state.station
  pub trace : TraceStands past state.on
