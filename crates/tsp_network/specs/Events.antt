-- What can happen in a network of daemons.
use Rattle.std.specs.Prelude.{◌≡◌, ◌⊎◌, ℕ, ◌≤◌, ◌<◌, ◌^◌, true, List, [], ◌∷◌, length, Option, None, Some, slice_get}
use Rattle.tsp_rules.specs.Values.{Event, BootAt, Turn, Take, Bytes, Place, Peer, Stranger, Port}
use Rattle.tsp_base.specs.Words.{has_member}
use Rattle.tsp_promises.specs.Setting.{KeepsTime}
use Rattle.tsp_rules.specs.Guards.{is_clock_value}
use Rattle.tsp_codec.specs.Numbers.{octet_at}
use Rattle.tsp_run.specs.{Clocked.IsSetUp, Networks.networks, Run.event_at, Run.last_at, declared.address.Address.Address}
use Rattle.tsp_network.specs.{Lives.Daemons, Lives.IsStarted, Lives.Life, Rosters.destination, Rosters.neighbours, Rosters.neighbours_on}
use Rattle.tsp_network.specs.Networks.{Network, Sent, network, daemon_tick, next_life, node_wall}

-- a daemon runs on node n, and its arguments leave it a turn
abbrev pub IsRunning : Daemons → ℕ → Option Life → Type 0
IsRunning d n None = ⊥
IsRunning d n (Some life) = length life.arrivals < (d.words n).turns

-- a daemon runs at this address, if there is one
abbrev pub RunsAt : Daemons → Network → Option Address → Type 0
RunsAt d w None = Unit {0}
RunsAt d w (Some a) = IsRunning d a.node (w.lives a.node)

-- this send was tried, and a daemon runs where it goes
abbrev pub RunsFor : Daemons → Network → Option Sent → Type 0
RunsFor d w None = ⊥
RunsFor d w (Some s) = (s.went ≡ true) × RunsAt d w (destination (networks d.header) s.from s.tried.0)

-- octets may come from there to port q of node n. A daemon tells its ports apart by the senders: what comes from its own address or from a
-- stranger it takes on port 0
abbrev pub MayCome : List (List ℕ) → ℕ → Port → Place → Type 0
MayCome nets n q (Peer m) = ((m.0 ≡ n) × (q.0 ≡ 0)) ⊎ (has_member m.0 (neighbours_on n q.0 nets) ≡ true)
MayCome nets n q Stranger = q.0 ≡ 0

-- event k can happen: a daemon starts after its counter does, and its wall clock is then in the range that a daemon takes; the daemon of any
-- other event runs, and has taken fewer turns than its arguments say; a copy is that of a send that was tried; and of other octets there are at
-- most 512, which is all that a daemon reads of a datagram
abbrev pub CanHappen : Daemons → ℕ → Network → Event → Type 0
CanHappen d k w (BootAt at node word) =
    (node < length d.header.nodes) × (word < 2 ^ 64) × (d.origin k ≤ daemon_tick d node at) × (is_clock_value (node_wall d node (next_life w node) at) ≡ true)
CanHappen d k w (Turn at node) = IsRunning d node (w.lives node)
CanHappen d k w (Take at number) = RunsFor d w (slice_get w.sent number)
CanHappen d k w (Bytes at node port from octets) =
    IsRunning d node (w.lives node) × (port.0 < length (neighbours node (networks d.header))) × MayCome (networks d.header) node port from
    × (length octets ≤ 512) × ((i : ℕ) → octet_at octets i < 256)

-- each of these events, the newest of which comes first, can happen after those before it, and isn't earlier
abbrev pub AllHappen : Daemons → List Event → Type 0
AllHappen d [] = Unit {0}
AllHappen d (e ∷ before) = (last_at before ≤ event_at e) × CanHappen d (length before) (network d before) e × AllHappen d before

-- the events of a network of daemons: each node's counter stays within the drift, each daemon is started as its node says, and fewer than
-- 2^64 datagrams are sent
pub record IsNetwork (d : Daemons) (events : List Event) : Type 0 where
  pub header_is : IsSetUp d.header
  pub keeps : (n : ℕ) → KeepsTime d.header.drift (d.clocks.tick n)
  pub started : (n : ℕ) → n < length d.header.nodes → IsStarted d n
  pub happen : AllHappen d events
  pub few : length (network d events).sent < 2 ^ 64
