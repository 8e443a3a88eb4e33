-- So far none was found.
use Rattle.std.specs.Prelude.{◌≡◌, ◌≢◌, ℕ, ◌<◌, false}
use Rattle.tsp_rules.specs.NodeRows.{NodePast}
use Rattle.tsp_gateway.specs.{GatewayStands.GatewayStands, GatewayStands.port_at, PortFacts.asked_on}
use Rattle.tsp_gateway.proofs.gateway.Gateway.any_other.Given as goal

abbrev pub invariant-loop-r : goal.invariant-loop-r
invariant-loop-r l = (past : NodePast) → GatewayStands past l.self → (k : ℕ) → k < l.r → k ≢ l.q → asked_on l.asked past (port_at k) ≡ false
