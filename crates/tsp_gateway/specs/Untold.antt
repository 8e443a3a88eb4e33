-- A node one of whose ports has corrected its clock, before the other ports have noted it.
use Rattle.std.specs.Prelude.{◌≡◌, ◌≢◌, ◌==◌, ℕ, Bool, true, false, not, List, length, None, Some, slice_get}
use Rattle.tsp_base.specs.Words.{dids, tracing}
use Rattle.tsp_rules.specs.{GateRows.other_ports, GateRows.ports_from, NodeRows.NodePast, NodeRows.on_port, Values.Port}
use Rattle.tsp_clock.specs.Clocks.{ClockValue}
use Rattle.tsp_node.specs.{NodeStands.PortStands, NodeStands.PortValue, NodeStands.port_with, declared.part.Part.Part}
use Rattle.tsp_gateway.specs.{GatewayStands.port_at, declared.gateway.Gateway.Gateway}

-- a port's state once it has noted a correction at this tick
abbrev pub told : ℕ → Part → ClockValue → PortValue
told x part clock = record (port_with part clock) { last = record { tick = Some x; taken = None; name = part.last.name } }

-- port q stands for its past, and each other port does so once it has noted the correction
pub record Untold (q x : ℕ) (past : NodePast) (g : Gateway) : Type 0 where
  pub many : length g.ports.items ≡ length past.ports
  pub traces : tracing (dids past.lines) ≡ g.tracing
  pub here : (part : Part) → slice_get g.ports.items q ≡ Some part → PortStands (on_port (port_at q) past) (port_with part g.clock)
  pub others : (r : ℕ) (part : Part) → slice_get g.ports.items r ≡ Some part → r ≢ q → PortStands (on_port (port_at r) past) (told x part g.clock)

-- the ports whose rounds a correction ends: the others, or all
abbrev pub upset_ports : Bool → Port → ℕ → NodePast → List Port
upset_ports true q x past = ports_from 0 past.ports
upset_ports false q x past = other_ports q past

-- whether a port is one of them
abbrev pub is_upset : Bool → ℕ → Port → Bool
is_upset true q r = true
is_upset false q r = not (r.0 == q)
