-- Why an event of an audited schedule is refused: for what it is refused in a run, but of a take only the time is
-- looked at, and there is room for fewer events.
use Rattle.std.specs.Prelude.{◌≡◌, ℕ, ◌≤◌, nat_le, if◌then◌else◌, Bool, true, List, [], length, Option, None, Some}
use Rattle.std.specs.{Coded.Unit-prop, Coded.le_prop, List.All}
use Rattle.tsp_base.specs.declared.event.Event.TheVariants.{Boot as BootAt, Turn, Take, Bytes}
use Rattle.tsp_base.specs.declared.event.EventFault.TheVariants.{Limit}
use Rattle.tsp_base.specs.{Words.HeaderValue, Words.is_whole, declared.event.Event.Event, declared.event.EventFault.EventFault}
use Rattle.tsp_claims.specs.Listed.{NamesNode, booted}
use Rattle.tsp_run.specs.{Refusals.down, Refusals.first_of, Refusals.no_node, Refusals.scene, Refusals.time_back, Run.event_at, Run.last_at}

-- the most nodes that an audited schedule may have
abbrev pub most_nodes : ℕ
most_nodes = 16

-- the most events that it may have
abbrev pub most_listed : ℕ
most_listed = 20000

-- the node that must have booted before an event: that of a turn or of octets; none for a boot and for a take
abbrev pub wants_up : Event → Option ℕ
wants_up (BootAt at node word) = None
wants_up (Turn at node) = Some node
wants_up (Take at datagram) = None
wants_up (Bytes at node port from octets) = Some node

-- the fault of one event more after so many: a limit, where they are 20,000 or more
abbrev pub no_room : ℕ → Option EventFault
no_room events = if nat_le most_listed events then Some (Limit events 0) else None

-- for what first cause an event is refused, if it is, under a header, after so many events, where the newest one had
-- this time, in microseconds, and these nodes have booted: its time is before that; it names a node, a port or a sender
-- that doesn't exist; its node hasn't booted; there is no room
abbrev pub refusal_at : HeaderValue → ℕ → ℕ → (ℕ → Bool) → Event → Option EventFault
refusal_at header last events up e = first_of (time_back (event_at e) last) (first_of (no_node (scene header []) e)
    (first_of (down up (wants_up e)) (no_room events)))

-- for what first cause an event may not follow these, if it may not; they are given newest first
abbrev pub refused_next : HeaderValue → List Event → Event → Option EventFault
refused_next header events e = refusal_at header (last_at events) (length events) (booted events) e

-- a header that may be audited: 1 to 16 nodes, each on a network where there are networks
pub record IsAudited (header : HeaderValue) : Type 0 where
  pub some : 1 ≤ length header.nodes
  pub few : length header.nodes ≤ most_nodes
  pub whole : is_whole header ≡ true

-- an event at a true time of a schedule, at most 10^15 microseconds, and its node is one of so many; a take names none
abbrev pub IsListed : ℕ → Event → Type 0
IsListed nodes e = (event_at e ≤ 1000000000000000) × NamesNode nodes e

-- at most 20,000 events, each at such a time, their nodes among so many: they may be audited
abbrev pub AreListed : ℕ → List Event → Type 0
AreListed nodes events = (length events ≤ most_listed) × All (IsListed nodes) events

NamesNode_prop : (nodes : ℕ) (e : Event) → IsProp (NamesNode nodes e)
NamesNode_prop nodes (BootAt at node word) = le_prop
NamesNode_prop nodes (Turn at node) = le_prop
NamesNode_prop nodes (Take at datagram) = Unit-prop
NamesNode_prop nodes (Bytes at node port from octets) = le_prop

-- there is one proof at most that events may be audited
pub AreListed_prop : (nodes : ℕ) (events : List Event) → IsProp (AreListed nodes events)
AreListed_prop nodes events = hlevel (le_prop, NamesNode_prop)
