-- Which pasts a gateway stands for.
use Rattle.std.specs.Prelude.{◌≡◌, ℕ, ◌≤◌, false, List, length, None, Some, slice_get}
use Rattle.tsp_base.specs.Words.{IsTick, dids, view, tracing, acting, taken}
use Rattle.tsp_rules.specs.{NodeRows.NodePast, NodeRows.on_port, Values.Port}
use Rattle.tsp_clock.specs.Clocks.{ClockValue}
use Rattle.tsp_node.specs.{NodeStands.PortStands, NodeStands.port_with, declared.part.Part.Part}
use Rattle.tsp_gateway.specs.declared.gateway.Gateway.{Gateway}

-- the port of this number
abbrev pub port_at : ℕ → Port
port_at q = record { 0 = q }

-- each port's state, with the node's clock, has exactly the facts of that port's past
abbrev pub PortsStand : NodePast → ClockValue → List Part → Type 0
PortsStand past clock parts = (q : ℕ) (part : Part) → slice_get parts q ≡ Some part → PortStands (on_port (port_at q) past) (port_with part clock)

-- a node stands for this past, between its steps
pub record GatewayStands (past : NodePast) (g : Gateway) : Type 0 where
  pub many : length g.ports.items ≡ length past.ports
  pub traces : tracing (dids past.lines) ≡ g.tracing
  pub ports : PortsStand past g.clock g.ports.items

-- nothing was taken in this step, and no alarm of this port or a higher one was handled in it
pub record TurnsFrom (q : ℕ) (past : NodePast) : Type 0 where
  pub untaken : (r : Port) → taken (view r past.lines) ≡ None
  pub still : (r : Port) → q ≤ r.0 → acting (view r past.lines) ≡ false

-- a node in a step, after the due sends and alarms of the ports below this one
pub record GatewayTurning (q : ℕ) (past : NodePast) (g : Gateway) : Type 0 where
  pub stands : GatewayStands past g
  pub turns : TurnsFrom q past

-- a node whose step has just begun
abbrev pub GatewayBegun : NodePast → Gateway → Type 0
GatewayBegun = GatewayTurning 0

-- the tick of the node's last correction, or of its boot
abbrev pub clock_at : Gateway → ℕ
clock_at g = g.clock.at

-- a step may come at this tick: it is in its range, and not before the clock's last
abbrev pub ComesAt : ℕ → Gateway → Type 0
ComesAt tick g = IsTick tick × (clock_at g ≤ tick)
