-- No port so far follows a master.
use Rattle.std.specs.Prelude.{◌≡◌, drop}
use Rattle.tsp_rules.specs.{GateRows.ports_from, NodeRows.NodePast}
use Rattle.tsp_gateway.specs.{GatewayStands.GatewayStands, Standings.followed, Standings.followed_on}
use Rattle.tsp_gateway.proofs.gateway.Gateway.followed.Given as goal

abbrev pub invariant-loop-q : goal.invariant-loop-q
invariant-loop-q l = (past : NodePast) → GatewayStands past l.self → followed past ≡ followed_on past (ports_from l.q (drop l.q past.ports))
