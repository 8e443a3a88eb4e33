-- What is proved of gateways.
use Rattle.std.specs.Prelude.{ℕ}
use Rattle.tsp_base.specs.Words.{Step}
use Rattle.tsp_rules.specs.NodeRows.{NodePast, in_node_step}
use Rattle.tsp_gateway.specs.{GatewayStands.GatewayBegun, GatewayStands.GatewayStands, declared.gateway.Gateway.Gateway}

-- a node that stands for its past between two steps stands for it when the next step begins
abbrev pub StepsBegin : Type 0
StepsBegin = (step : Step) (x : ℕ) (past : NodePast) (g : Gateway) → GatewayStands past g → GatewayStands (record past { step = step }) g ×
    GatewayBegun (in_node_step step x past) g
