-- Whether any port is a master.
use Rattle.std.proofs.Common.{◌≡◌, ◌∙◌, ap, length, rules, sym, vec_len, None}
use Rattle.tsp_rules.specs.NodeRows.{NodePast}
use Rattle.tsp_gateway.specs.declared.leading.Asked.TheVariants.{Leads}
use Rattle.tsp_gateway.specs.{GatewayStands.GatewayStands, GatewayStands.port_at, PortFacts.any_lower, Standings.leads_any, Standings.standing_by}
use Rattle.tsp_gateway.proofs.{AnyLemmas.lower_all, gateway.Gateway.alone.Goals.After-any_lower}
use Rattle.tsp_gateway.proofs.gateway.Gateway.alone.Goals as goal

leads : (c : After-any_lower) (past : NodePast) → GatewayStands past c.args.self.now → c.any_lower.result ≡ leads_any past
leads c past h =
    let len : vec_len c.args.self.now.ports ≡ length c.args.self.now.ports.items = search rules in
    let all : c.len.result ≡ length past.ports = c.len.ensures ∙ len ∙ h.many in
    c.any_lower.ensures past h ∙ ap (λ n. any_lower Leads (port_at n) past) all ∙ lower_all Leads past

pub returns-then-any_lower : goal.returns-then-any_lower
returns-then-any_lower c past h = ap (standing_by None) (sym c.if-any_lower.true ∙ leads (goal.at.returns-then-any_lower c).After-any_lower past h)

pub returns-else-any_lower : goal.returns-else-any_lower
returns-else-any_lower c past h = ap (standing_by None) (sym c.if-any_lower.false ∙ leads (goal.at.returns-else-any_lower c).After-any_lower past h)
