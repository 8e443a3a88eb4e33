-- No port follows, and no lower one leads.
use Rattle.std.proofs.Common.{◌≡◌, ◌∙◌, ap, false, length, refl, rules, sym, true, vec_len, ◌&&◌, Bool, not}
use Rattle.std.proofs.lemmas.Bool.{and_left}
use Rattle.tsp_rules.specs.{GateRows.any_port, GateRows.follows_on, GateRows.ports_from, NodeRows.NodePast}
use Rattle.tsp_gateway.specs.declared.leading.Asked.TheVariants.{Follows}
use Rattle.tsp_gateway.specs.{GatewayStands.GatewayStands, GatewayStands.port_at, PortFacts.any_lower}
use Rattle.tsp_gateway.proofs.{AnyLemmas.lower_all, gateway.Gateway.leads_clock.Goals.After-any_lower}
use Rattle.tsp_gateway.proofs.gateway.Gateway.leads_clock.Goals as goal

none-follows : (c : After-any_lower) (past : NodePast) → GatewayStands past c.args.self.now → c.any_lower.result ≡
    any_port (follows_on past) (ports_from 0 past.ports)
none-follows c past h =
    let len : vec_len c.args.self.now.ports ≡ length c.args.self.now.ports.items = search rules in
    let all : c.len.result ≡ length past.ports = c.len.ensures ∙ len ∙ h.many in
    c.any_lower.ensures past h ∙ ap (λ n. any_lower Follows (port_at n) past) all ∙ lower_all Follows past

and-first : (a b : Bool) → a ≡ true → (a && b) ≡ b
and-first true b e = refl
and-first false b e = let bad : ⊥ = cc in absurd bad

pub returns-then-not-any_lower : goal.returns-then-not-any_lower
returns-then-not-any_lower c x past h =
    let first = ap not (sym (none-follows (goal.at.returns-then-not-any_lower c).After-any_lower past h)) ∙ ap not c.if-not-any_lower.true in
    ap not (c.any_lower-then-not-any_lower.ensures past h) ∙ sym (and-first _ _ first)

pub returns-else-not-any_lower : goal.returns-else-not-any_lower
returns-else-not-any_lower c x past h =
    let first = ap not (sym (none-follows (goal.at.returns-else-not-any_lower c).After-any_lower past h)) ∙ ap not c.if-not-any_lower.false in
    ap not c.if-not-any_lower.false ∙ sym (and_left _ _ first)
