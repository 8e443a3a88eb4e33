-- Which pasts a station stands for.
use Rattle.std.specs.Prelude.{◌≡◌, ℕ, ◌+◌, ◌%◌, min, true, false, None, List, length}
use Rattle.tsp_rules.specs.Values.{PeerId, Starting}
use Rattle.tsp_base.specs.Words.{none_armed, Past, plain, word, role, armed, held, backers, acting, open_send, begun}
use Rattle.tsp_sends.specs.Slots.{sending_to}
use Rattle.tsp_acks.specs.declared.{me.Me.Me, station.Station.Station}

-- the station has exactly the facts of its port's past
pub record StationStands (past : Past) (station : Station) : Type 0 where
  pub own : station.me.own ≡ past.own
  pub name : station.me.name ≡ past.name
  pub may : station.me.may ≡ past.may
  pub strict : station.me.strict ≡ past.strict
  pub peers : station.peers ≡ past.peers
  pub word : station.me.word ≡ word (plain past.seen)
  pub role : station.role ≡ role past.seen
  pub alarms : station.alarms ≡ armed past.seen
  pub hold : station.hold ≡ held past.seen
  pub sends : (p : PeerId) → sending_to station.sends p ≡ open_send p past.seen
  pub begun : station.begun ≡ begun past.seen % 32768
  pub backers : station.backers ≡ min (length (backers past.seen)) 4294967295

-- the number of the station's next send that the port numbers itself
abbrev pub own_number : Station → ℕ
own_number station = 32768 + (station.me.word + station.begun) % 32768

-- a station in a step in which an alarm was handled or a datagram taken: a numbered message that is posted now begins a send
pub record StandsActing (past : Past) (station : Station) : Type 0 where
  pub stands : StationStands past station
  pub acted : acting past.seen ≡ true

-- a station in a step in which neither has happened yet: a numbered message that is posted now repeats the open send
pub record StandsStill (past : Past) (station : Station) : Type 0 where
  pub stands : StationStands past station
  pub still : acting past.seen ≡ false

-- a past of the port with this setup
pub record IsPortOf (me : Me) (peers : List PeerId) (past : Past) : Type 0 where
  pub own : me.own ≡ past.own
  pub name : me.name ≡ past.name
  pub may : me.may ≡ past.may
  pub strict : me.strict ≡ past.strict
  pub peers_are : peers ≡ past.peers

-- the station of a node that has just booted at a tick
pub record IsFreshStation (me : Me) (peers : List PeerId) (tick : ℕ) (station : Station) : Type 0 where
  pub me_is : station.me ≡ me
  pub role_is : station.role ≡ Starting
  pub hold_is : station.hold ≡ record { boot = tick; back = None; quit = None }
  pub sends_are : (p : PeerId) → sending_to station.sends p ≡ None
  pub alarms_are : station.alarms ≡ none_armed
  pub begun_is : station.begun ≡ 0
  pub backers_is : station.backers ≡ 0
  pub peers_are : station.peers ≡ peers
