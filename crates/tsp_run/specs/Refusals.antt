-- When an event is refused after the events before it, and why: the first cause that applies.
use Rattle.std.specs.Prelude.{◌≡◌, ◌⊎◌, ℕ, ◌+◌, ◌<◌, ◌≤◌, nat_lt, nat_le, ◌||◌, Bool, false, if◌then◌else◌, List, [], ◌∷◌, length, Option, None, Some}
use Rattle.std.specs.Prelude.{slice_get}
use Rattle.tsp_rules.specs.Values.{Event, BootAt, Turn, Take, Bytes, Place, Peer, Stranger, Port}
use Rattle.tsp_base.specs.{Words.HeaderValue, Words.of, Words.dids, Words.up, declared.event.EventFault.EventFault}
use Rattle.tsp_base.specs.declared.event.EventFault.TheVariants.{TimeBack, NoNode, NoDatagram, NotUp, Limit, OutOfMemory}
use Rattle.tsp_run.specs.{Run.event_at, Run.goes_to, Run.last_at, Run.posts, Run.run, Networks.networks, Networks.ports_on, Networks.room}
use Rattle.tsp_run.specs.{declared.address.Address.Address, declared.posted.Posted.Posted}

-- the most events that a schedule may have, 200,000, and the most datagrams that its nodes may post, 1,000,000
abbrev pub most_events : ℕ
most_events = 200000

abbrev pub most_posts : ℕ
most_posts = 1000000

-- what decides whether an event is refused: the number of nodes, the networks, the true time of the last event, the
-- number of events so far, the datagrams posted so far, and which nodes have booted
pub record Scene : Type 0 where
  pub nodes : ℕ
  pub networks : List (List ℕ)
  pub last : ℕ
  pub events : ℕ
  pub posts : List Posted
  pub up : ℕ → Bool

-- that of a header and the events so far
abbrev pub scene : HeaderValue → List Event → Scene
scene header before = record {
  nodes = length header.nodes;
  networks = networks header;
  last = last_at before;
  events = length before;
  posts = posts (run header before);
  up = λ n. up (dids (of n (run header before)));
}

abbrev pub node_in : Option Address → Option ℕ
node_in None = None
node_in (Some a) = Some a.node

-- the node that would act at an event: none at the `take` of a datagram that reaches no node
abbrev pub actor : Scene → Event → Option ℕ
actor s (BootAt at node word) = Some node
actor s (Turn at node) = Some node
actor s (Take at datagram) = node_in (goes_to s.networks (slice_get s.posts datagram))
actor s (Bytes at node port from octets) = Some node

-- the first of two causes
abbrev pub first_of : Option EventFault → Option EventFault → Option EventFault
first_of None second = second
first_of (Some fault) second = Some fault

-- the event is earlier than the last one
abbrev pub time_back : ℕ → ℕ → Option EventFault
time_back at last = if nat_lt at last then Some (TimeBack at last) else None

-- there is no node with this number
abbrev pub unknown : ℕ → ℕ → Option EventFault
unknown nodes n = if nat_lt n nodes then None else Some (NoNode n nodes)

-- the place is a peer, and there is no node with its number
abbrev pub unknown_place : ℕ → Place → Option EventFault
unknown_place nodes (Peer p) = unknown nodes p.0
unknown_place nodes Stranger = None

-- how many ports a node has
abbrev pub port_count : ℕ → List (List ℕ) → ℕ
port_count n nets = length (ports_on n nets)

-- the node doesn't have this port
abbrev pub lacks_port : Scene → ℕ → Port → Option EventFault
lacks_port s n port = if nat_lt port.0 (port_count n s.networks) then None else Some (NoNode n s.nodes)

-- a node that doesn't exist is named: the node of the event, its port, or the node that the octets seem to come from
abbrev pub no_node : Scene → Event → Option EventFault
no_node s (BootAt at node word) = unknown s.nodes node
no_node s (Turn at node) = unknown s.nodes node
no_node s (Take at datagram) = None
no_node s (Bytes at node port from octets) = first_of (unknown s.nodes node) (first_of (lacks_port s node port) (unknown_place s.nodes from))

-- the event takes a datagram that was never posted
abbrev pub no_datagram : ℕ → Event → Option EventFault
no_datagram posted (Take at datagram) = if nat_lt datagram posted then None else Some (NoDatagram datagram posted)
no_datagram posted _ = None

-- this node hasn't booted
abbrev pub down_at : Bool → ℕ → Option EventFault
down_at up n = if up then None else Some (NotUp n)

abbrev pub down : (ℕ → Bool) → Option ℕ → Option EventFault
down up None = None
down up (Some n) = down_at (up n) n

-- the node that would act hasn't booted; any node may boot
abbrev pub not_up : Scene → Event → Option EventFault
not_up s (BootAt at node word) = None
not_up s e = down s.up (actor s e)

-- how many acts the node that would act may put, if there is one
abbrev pub room_at : List (List ℕ) → Option ℕ → Option ℕ
room_at nets None = None
room_at nets (Some n) = Some (room (ports_on n nets))

-- whether the step might pass the greatest number of posts, each of its acts counted as one
abbrev pub is_crowded : ℕ → Option ℕ → Bool
is_crowded posted None = false
is_crowded posted (Some wanted) = nat_lt most_posts (posted + wanted)

-- one event more would pass the greatest number of events, or the step might pass that of posts
abbrev pub limit : ℕ → ℕ → Option ℕ → Option EventFault
limit events posted wanted = if nat_le most_events events || is_crowded posted wanted then Some (Limit events posted) else None

-- why an event is refused, if it is: the first cause of time, node, datagram, not booted, and limit
abbrev pub refusal : Scene → Event → Option EventFault
refusal s e =
    first_of (time_back (event_at e) s.last) (first_of (no_node s e) (first_of (no_datagram (length s.posts) e)
    (first_of (not_up s e) (limit s.events (length s.posts) (room_at s.networks (actor s e))))))

-- why an event can't happen, if it can't: the first cause of time, node, datagram and not booted. The limits of a replay
-- are no such cause
abbrev pub impossible : Scene → Event → Option EventFault
impossible s e = first_of (time_back (event_at e) s.last) (first_of (no_node s e) (first_of (no_datagram (length s.posts) e) (not_up s e)))

-- none of these events is refused after those before it
abbrev pub Valid : HeaderValue → List Event → Type 0
Valid header [] = Unit {0}
Valid header (e ∷ before) = (refusal (scene header before) e ≡ None) × Valid header before

-- why an event is refused: the first cause, or, if there is none, OutOfMemory
abbrev pub IsRefusal : Option EventFault → EventFault → Type 0
IsRefusal cause fault = (cause ≡ Some fault) ⊎ ((cause ≡ None) × (fault ≡ OutOfMemory))

-- what an event names exists: its node, and the port on which octets come
abbrev pub Names : Scene → Event → Type 0
Names s (BootAt at node word) = node < s.nodes
Names s (Turn at node) = node < s.nodes
Names s (Take at datagram) = Unit {0}
Names s (Bytes at node port from octets) = (node < s.nodes) × (port.0 < length (ports_on node s.networks))

-- what is so if no cause refuses an event
pub record Allowed (s : Scene) (e : Event) : Type 0 where
  pub time : s.last ≤ event_at e
  pub events : s.events < most_events
  pub posts : (n : ℕ) → actor s e ≡ Some n → length s.posts + room (ports_on n s.networks) ≤ most_posts
  pub node : Names s e
  pub up : not_up s e ≡ None
