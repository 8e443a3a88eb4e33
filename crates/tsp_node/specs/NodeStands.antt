-- Which pasts a node and its parts stand for.
use Rattle.std.specs.Prelude.{◌≡◌, ℕ, ◌-◌, ◌^◌, ℤ, Bool, false, List, ◌∷◌, Option, None, Some}
use Rattle.tsp_rules.specs.Values.{Correct, PeerId}
use Rattle.tsp_base.specs.Words.{Acts, Booted, Elsewhere, Past, Step, Received, acting, taken}
use Rattle.tsp_acks.specs.{Stands.StationStands, declared.station.Station.Station}
use Rattle.tsp_clients.specs.ClientStands.{TraceStands}
use Rattle.tsp_clock.specs.{ClockStands.ClockStands, Clocks.ClockValue}
use Rattle.tsp_slave.specs.Lasts.{LastValue, Remembers}
use Rattle.tsp_master.specs.{MasterStands.MasterStands, declared.master.Master.Master}
use Rattle.tsp_date.specs.{DateStands.DatesStand, Dates.DatesValue}
use Rattle.tsp_resolve.specs.{ResolveStands.ResolveStands, declared.resolve.Resolve.Resolve}
use Rattle.tsp_node.specs.{Configs.ConfigValue, Configs.IsOf, declared.node.Node.Node, declared.part.Part.Part}

-- the state of a port, with its node's clock
pub record PortValue : Type 0 where
  pub station : Station
  pub last : LastValue
  pub master : Master
  pub resolve : Resolve
  pub dates : DatesValue
  pub clock : ClockValue

-- the state has exactly the facts of the port's past
pub record PortStands (past : Past) (v : PortValue) : Type 0 where
  pub station : StationStands past v.station
  pub last : Remembers past v.last
  pub master : MasterStands past v.master
  pub resolve : ResolveStands past v.resolve
  pub dates : DatesStand past v.dates
  pub clock : ClockStands past v.clock

-- the same in a step that has taken nothing yet
pub record PortUntaken (past : Past) (v : PortValue) : Type 0 where
  pub stands : PortStands past v
  pub untaken : taken past.seen ≡ None

-- the same in a step in which no alarm was handled either
pub record PortBegun (past : Past) (v : PortValue) : Type 0 where
  pub stands : PortStands past v
  pub untaken : taken past.seen ≡ None
  pub still : acting past.seen ≡ false

-- the same in a step that has taken this
pub record PortTook (r : Received) (past : Past) (v : PortValue) : Type 0 where
  pub stands : PortStands past v
  pub took : taken past.seen ≡ Some r

-- a port's state, with its node's clock
abbrev pub port_with : Part → ClockValue → PortValue
port_with part clock = record { station = part.station; last = part.last; master = part.master; resolve = part.resolve; dates = part.dates; clock = clock }

-- a port's past after a correction on another port of its node, in this step and at this tick
abbrev pub corrected_elsewhere : Step → ℕ → ℤ → Bool → ℤ → Past → Past
corrected_elsewhere step x amount stepped shown past = record past {
  seen = Elsewhere (record {
    step = step;
    tick = x;
    deed = Acts (Correct amount stepped shown);
  }) ∷ past.seen;
}

-- a port with its node's clock, and whether the node's trace is on
pub record TracedValue : Type 0 where
  pub port : PortValue
  pub tracing : Bool

abbrev pub traced_with : Part → ClockValue → Bool → TracedValue
traced_with part clock tracing = record { port = port_with part clock; tracing = tracing }

-- the port is as its past has it in this way, and the trace is on where the past says so
pub record Traced (fits : Past → PortValue → Type 0) (past : Past) (v : TracedValue) : Type 0 where
  pub port : fits past v.port
  pub trace : TraceStands past v.tracing

-- both have exactly the facts of the past
abbrev pub TakeStands : Past → TracedValue → Type 0
TakeStands = Traced PortStands

-- the same where this was taken
abbrev pub TookStands : Received → Past → TracedValue → Type 0
TookStands r = Traced (PortTook r)

-- a node's port with its clock, and whether the trace is on
abbrev pub traced_of : Node → TracedValue
traced_of node = traced_with node.part node.clock node.tracing

-- a node stands for this past, between its steps
abbrev pub NodeStands : Past → Node → Type 0
NodeStands past node = Traced PortStands past (traced_of node)

-- the same in a step that has taken nothing yet
abbrev pub NodeUntaken : Past → Node → Type 0
NodeUntaken past node = Traced PortUntaken past (traced_of node)

-- a node whose step has just begun
abbrev pub Begun : Past → Node → Type 0
Begun past node = Traced PortBegun past (traced_of node)

-- a node with this configuration boots in this step, with this word and at this wall clock
pub record Unbooted (config : ConfigValue) (word : ℕ) (wall : ℤ) (past : Past) (node : Unit {0}) : Type 0 where
  pub cause : past.step.cause ≡ Booted word wall
  pub of : IsOf config past

-- the peers of a node
abbrev pub peers_in : Node → List PeerId
peers_in node = node.part.station.peers

-- the tick of a node's last correction, or of its boot
abbrev pub clock_at : Node → ℕ
clock_at node = node.clock.at

-- the tick at which a node needs its next step; the greatest number of 64 bits where there is no deadline
abbrev pub due_of : Option ℕ → ℕ
due_of None = 2 ^ 64 - 1
due_of (Some at) = at
