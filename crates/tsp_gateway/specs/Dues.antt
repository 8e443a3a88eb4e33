-- When a gateway needs its next step, and whether a port has probed.
use Rattle.std.specs.Prelude.{◌≡◌, ◌<◌, ℕ, false, List, [], ◌∷◌, length, Option, None, Some, slice_get}
use Rattle.tsp_base.specs.Words.{deadline, earlier, least_deadline, Seen, view, armed, open_send}
use Rattle.tsp_rules.specs.{Guards.is_over, NodeRows.NodePast, Values.Alarm, Values.PeerId}
use Rattle.tsp_sends.specs.{Repeating.IsEarliest, Repeating.is_due_send, Slots.sending_to}
use Rattle.tsp_node.specs.{Dues.IsPartDue, NodeStands.due_of, declared.part.Part.Part}
use Rattle.tsp_gateway.specs.{GatewayStands.port_at, declared.gateway.Gateway.Gateway}

-- the earliest of some deadlines
abbrev pub least_of : List (Option ℕ) → Option ℕ
least_of [] = None
least_of (o ∷ rest) = earlier o (least_of rest)

-- the earliest deadline of a port's armed alarms and open sends
pub record IsPortDue (seen : List Seen) (due : Option ℕ) : Type 0 where
  pub sends : Option ℕ
  pub first : IsEarliest (λ p. open_send p seen) sends
  pub due_is : due ≡ earlier (least_deadline (armed seen)) sends

-- the earliest deadline of all ports; the greatest number of 64 bits where there is none
pub record IsNodeDue (past : NodePast) (at : ℕ) : Type 0 where
  pub dues : List (Option ℕ)
  pub many : length dues ≡ length past.ports
  pub each : (q : ℕ) (due : Option ℕ) → slice_get dues q ≡ Some due → IsPortDue (view (port_at q) past.lines) due
  pub at_is : at ≡ due_of (least_of dues)

-- the same from the states of the ports
pub record IsGatewayDue (g : Gateway) (at : ℕ) : Type 0 where
  pub dues : List (Option ℕ)
  pub many : length dues ≡ length g.ports.items
  pub each : (q : ℕ) (due : Option ℕ) → slice_get dues q ≡ Some due → (part : Part) × (slice_get g.ports.items q ≡ Some part) × IsPartDue part due
  pub at_is : at ≡ due_of (least_of dues)

-- no alarm and no open send of a port is due at this tick
pub record Waits (x : ℕ) (part : Part) : Type 0 where
  pub alarms : (alarm : Alarm) → is_over (deadline part.station.alarms alarm) x ≡ false
  pub sends : (p : PeerId) → is_due_send x (sending_to part.station.sends p) ≡ false

-- before this tick nothing of any port is due
abbrev pub RestsUntil : ℕ → Gateway → Type 0
RestsUntil due g = (x q : ℕ) (part : Part) → x < due → slice_get g.ports.items q ≡ Some part → Waits x part

-- no Probe of port q is due any more at this tick
abbrev pub HasProbed : ℕ → ℕ → Gateway → Type 0
HasProbed q x g = (part : Part) → slice_get g.ports.items q ≡ Some part → is_over part.station.alarms.probe x ≡ false
