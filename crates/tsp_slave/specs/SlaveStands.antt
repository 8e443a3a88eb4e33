-- What a port's station, what it remembers and its node's clock stand for, while a step handles what it took.
use Rattle.std.specs.Prelude.{◌≡◌, ℕ, List, Option, Some}
use Rattle.tsp_rules.specs.Values.{Placed, Message, Good, PeerId, Peer, Port}
use Rattle.tsp_base.specs.Words.{Past, MessageValue, Performs, Received, name_in, said, taken, Row, Correcting, correcting_of}
use Rattle.tsp_acks.specs.{Stands.StationStands, declared.station.Station.Station}
use Rattle.tsp_clock.specs.{ClockStands.ClockStands, Clocks.ClockValue}
use Rattle.tsp_slave.specs.Lasts.{LastValue, Remembers}

-- this is what the step took
abbrev pub Took : Past → Option Received → Type 0
Took past took = taken past.seen ≡ took

-- what was taken is this message of a peer
abbrev pub IsMessageFrom : PeerId → MessageValue → Option Received → Type 0
IsMessageFrom p m took = took ≡ Some (record { from = Peer p; taken = Good (Message m) })

-- what was taken carries this name
abbrev pub IsNamed : List ℕ → Option Received → Type 0
IsNamed name took = name_in took ≡ name

-- what was taken is this correction
abbrev pub IsCorrection : Option Correcting → Option Received → Type 0
IsCorrection by took = correcting_of (said took) ≡ by

-- what stands beside a station: what it remembers, its node's clock, and what the step took
pub record AlsoState : Type 0 where
  pub last : LastValue
  pub clock : ClockValue
  pub took : Option Received

-- each of these is what the past comes to
pub record AlsoStands (past : Past) (also : AlsoState) : Type 0 where
  pub last : Remembers past also.last
  pub clock : ClockStands past also.clock
  pub took : Took past also.took

-- a port's station, and what stands beside it
pub record SlaveState : Type 0 where
  pub station : Station
  pub last : LastValue
  pub clock : ClockValue
  pub took : Option Received

-- these four
abbrev pub slave : Station → LastValue → ClockValue → Option Received → SlaveState
slave station last clock took = record { station = station; last = last; clock = clock; took = took }

-- each of these is what the past comes to
pub record SlaveStands (past : Past) (state : SlaveState) : Type 0 where
  pub station : StationStands past state.station
  pub last : Remembers past state.last
  pub clock : ClockStands past state.clock
  pub took : Took past state.took

-- a call puts a row's acts on this desk for a port that took something of this sort, and what the port has stands for the past before it and after it
abbrev pub ActsOn : {D : Type 0} → (Option Received → Type 0) → Row → ℕ → Port → (Option Received → SlaveState) → (Option Received → SlaveState) →
    (D → List Placed) → D → D → Type 0
ActsOn sort row x port before after acts old new = (took : Option Received) → sort took →
    Performs SlaveStands SlaveStands row x port (before took) (after took) (acts old) (acts new)
