-- The master that is followed, or none.
use Rattle.std.proofs.Common.{◌∙◌, ap, sym, Option}
use Rattle.tsp_rules.specs.Values.{PeerId}
use Rattle.tsp_gateway.specs.Standings.{leads_any, standing_by}
use Rattle.tsp_gateway.proofs.gateway.Gateway.standing.Goals as goal

pub returns-in-Some : goal.returns-in-Some
returns-in-Some c past h = ap (λ (o : Option PeerId). standing_by o (leads_any past)) (sym c.in-Some.is ∙ c.followed.ensures past h)

pub returns-in-None : goal.returns-in-None
returns-in-None c past h = c.alone.ensures past h ∙ ap (λ (o : Option PeerId). standing_by o (leads_any past)) (sym c.in-None.is ∙ c.followed.ensures past h)
