-- The ports are set up as the past says.
use Rattle.std.proofs.Common.{◌∙◌, ap}
use Rattle.tsp_gateway.{proofs.PortOfLemmas.setups_stand, specs.PortOf.port_of}
use Rattle.tsp_gateway.proofs.gateway.Gateway.port_of.Goals as goal

pub returns-clause-past : goal.returns-clause-past
returns-clause-past c = λ past s. c.place_of.ensures.value ∙ ap (port_of c.args.p) (setups_stand past c.args.self.now s)
