-- The mark changes nothing that the node stands for.
use Rattle.tsp_gateway.proofs.StepLemmas.{GatewayBegun_in_step, GatewayStands_step}
use Rattle.tsp_gateway.proofs.laws.steps_begin.Goals as goal

pub returns : goal.returns
returns c step x past g h = (GatewayStands_step step past g h, GatewayBegun_in_step step x past g h)
