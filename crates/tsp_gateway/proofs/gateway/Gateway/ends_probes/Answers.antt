-- The station says it.
use Rattle.std.proofs.Common.{◌≡◌, ◌∙◌, ap, false, length, rules, sym, true, vec_len, ◌&&◌, is_some, nat_le, not}
use Rattle.tsp_base.specs.Words.{Deadlines}
use Rattle.tsp_rules.specs.{GateRows.is_last_probe, NodeRows.on_port}
use Rattle.tsp_gateway.{proofs.AnyLemmas.station_there, specs.GatewayStands.port_at}
use Rattle.tsp_gateway.proofs.gateway.Gateway.ends_probes.Goals as goal

pub returns-then-asks_no_more : goal.returns-then-asks_no_more
returns-then-asks_no_more c past h =
    let s = station_there past c.args.self.now c.args.q c.index.result.now c.station.result.now c.requires c.index.ensures c.station.ensures h in
    let len : vec_len c.args.self.now.ports ≡ length c.args.self.now.ports.items = search rules in
    let last : is_last_probe (on_port (port_at c.args.q) past) ≡ true = ap (λ (d : Deadlines). is_some d.close && not (is_some d.probe)) (sym s.alarms) ∙
    sym c.asks_no_more.ensures ∙ c.if-asks_no_more.true in
    rw last (ap (nat_le 2) (c.len.ensures ∙ len ∙ h.many))

pub returns-else-asks_no_more : goal.returns-else-asks_no_more
returns-else-asks_no_more c past h =
    let s = station_there past c.args.self.now c.args.q c.index.result.now c.station.result.now c.requires c.index.ensures c.station.ensures h in
    let last : is_last_probe (on_port (port_at c.args.q) past) ≡ false = ap (λ (d : Deadlines). is_some d.close && not (is_some d.probe)) (sym s.alarms) ∙
    sym c.asks_no_more.ensures ∙ c.if-asks_no_more.false in
    rw last c.if-asks_no_more.false
