-- What a port's dates stand for, and what stands beside them while a step handles what it took.
use Rattle.std.specs.Prelude.{◌≡◌, ℕ, Bool, true, false, Option, None, Some}
use Rattle.tsp_rules.specs.Values.{Kind, DateAck, PeerId}
use Rattle.tsp_base.specs.Words.{Past, Received, taken, last_asked, last_date, sets_date}
use Rattle.tsp_acks.specs.{Stands.StationStands, declared.station.Station.Station}
use Rattle.tsp_clock.specs.{ClockStands.ClockStands, Clocks.ClockValue}
use Rattle.tsp_slave.specs.Lasts.{LastValue, Remembers}
use Rattle.tsp_master.specs.{MasterStands.MasterStands, declared.master.Master.Master}
use Rattle.tsp_date.specs.Dates.{DatesValue, last_in, peers_of}

-- the dates are what the port's past comes to
pub record DatesStand (past : Past) (dates : DatesValue) : Type 0 where
  pub peers : peers_of dates.dated ≡ past.peers
  pub last : (p : PeerId) → last_in dates.dated p ≡ last_date p past.seen
  pub asked : dates.asked ≡ last_asked past.seen

-- what a date may read or change: the port's dates, its master and its station, what is remembered of corrections, the node's clock, and what the step took
pub record DateState : Type 0 where
  pub dates : DatesValue
  pub master : Master
  pub station : Station
  pub last : LastValue
  pub clock : ClockValue
  pub took : Option Received

-- these six
abbrev pub date_state : DatesValue → Master → Station → LastValue → ClockValue → Option Received → DateState
date_state dates master station last clock took = record { dates = dates; master = master; station = station; last = last; clock = clock; took = took }

-- each of these is what the past comes to
pub record DateStands (past : Past) (s : DateState) : Type 0 where
  pub dates : DatesStand past s.dates
  pub master : MasterStands past s.master
  pub station : StationStands past s.station
  pub last : Remembers past s.last
  pub clock : ClockStands past s.clock
  pub took : taken past.seen ≡ s.took

-- whether messages of this kind set a date, pass one on, or say that one was set
abbrev pub is_of_dates : Kind → Bool
is_of_dates DateAck = true
is_of_dates kind = sets_date kind

-- what is remembered once a Correct is noted that no message of a master made, where there was one
abbrev pub moved_where : Bool → ℕ → LastValue → LastValue
moved_where true x last = record { tick = Some x; taken = None; name = last.name }
moved_where false x last = last
