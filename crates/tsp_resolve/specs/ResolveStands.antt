-- Which pasts a port's marks of rivals stand for.
use Rattle.std.specs.Prelude.{◌≡◌, ◌≢◌, true, false, length}
use Rattle.tsp_rules.specs.Values.{PeerId, Master}
use Rattle.tsp_base.specs.Words.{Past, is_among, acting, is_rival, role}
use Rattle.tsp_acks.specs.{Stands.StationStands, declared.station.Station.Station}
use Rattle.tsp_resolve.specs.{Marked.marked, declared.resolve.Resolve.Resolve}

-- there is a mark for each peer, the marked ones are the rivals, and a port that isn't master has none
pub record ResolveStands (past : Past) (resolve : Resolve) : Type 0 where
  pub many : length resolve.marks ≡ length past.peers
  pub rivals : (p : PeerId) → is_among p (marked past.peers resolve.marks) ≡ is_rival p past.seen
  pub empty : role past.seen ≢ Master → (p : PeerId) → is_rival p past.seen ≡ false

-- a port's marks and its station
pub record ResolvingState : Type 0 where
  pub resolve : Resolve
  pub station : Station

-- these two
abbrev pub resolving : Resolve → Station → ResolvingState
resolving resolve station = record { resolve = resolve; station = station }

-- both are what the past comes to
pub record ResolvingStands (past : Past) (state : ResolvingState) : Type 0 where
  pub resolve : ResolveStands past state.resolve
  pub station : StationStands past state.station

-- the same in a step in which an alarm was handled or a datagram taken
pub record ResolvingActs (past : Past) (state : ResolvingState) : Type 0 where
  pub resolve : ResolveStands past state.resolve
  pub station : StationStands past state.station
  pub acted : acting past.seen ≡ true
