-- The ports of a node that boots.
use Rattle.std.specs.Prelude.{◌≡◌, ℕ, ℤ, List, [], ◌∷◌, length, Some, slice_get, slice_index_or}
use Rattle.tsp_base.specs.Words.{Past, Booted, grown}
use Rattle.tsp_rules.specs.{NodeRows.PortSetup, NodeRows.no_port, Values.Boot}
use Rattle.tsp_acks.specs.{Stands.IsPortOf, declared.me.Me.Me}
use Rattle.tsp_clock.specs.{ClockStands.ClockStands, Clocks.ClockValue}
use Rattle.tsp_node.specs.{NodeStands.PortStands, NodeStands.port_with, declared.part.Part.Part}
use Rattle.tsp_gateway.specs.GateConfigs.{GateConfigValue}

-- who the node is on a port after a boot with this word
abbrev pub me_on : GateConfigValue → ℕ → PortSetup → Me
me_on c word s = record { own = s.own; name = c.name; word = word; may = c.may; strict = c.strict }

-- a port of a node that has just booted at this tick
abbrev pub IsFreshPort : GateConfigValue → ℕ → ℕ → PortSetup → Part → Type 0
IsFreshPort c word x s part = (part.station.peers ≡ s.peers) × ((past : Past) (wall : ℤ) (clock : ClockValue) → IsPortOf (me_on c word s) s.peers past →
    past.step.cause ≡ Booted word wall →
    ClockStands (grown x past (Boot ∷ [])) clock → PortStands (grown x past (Boot ∷ [])) (port_with part clock))

-- all ports of a node that has just booted at this tick
pub record AreFresh (c : GateConfigValue) (word x : ℕ) (parts : List Part) : Type 0 where
  pub many : length parts ≡ length c.ports
  pub each : (q : ℕ) (part : Part) → slice_get parts q ≡ Some part → IsFreshPort c word x (slice_index_or c.ports q no_port) part
