-- The station says it.
use Rattle.std.proofs.Common.{◌≡◌, ◌∙◌, ap, false, sym, true}
use Rattle.tsp_base.specs.Words.{Deadlines}
use Rattle.tsp_rules.specs.{Guards.is_due, Guards.is_met, Guards.is_over, NodeRows.on_port, Values.Probe}
use Rattle.tsp_gateway.{proofs.AnyLemmas.station_there, specs.GatewayStands.port_at}
use Rattle.tsp_gateway.proofs.gateway.Gateway.probe_rings.Goals as goal

pub returns-then-is_due : goal.returns-then-is_due
returns-then-is_due c past h =
    let s = station_there past c.args.self.now c.args.q c.index.result.now c.station-station.result.now c.requires c.index.ensures c.station-station.ensures h
    in
    let due : is_due Probe c.args.tick (on_port (port_at c.args.q) past) ≡ true = ap (λ (d : Deadlines). is_over d.probe c.args.tick) (sym s.alarms) ∙
    sym c.is_due.ensures ∙ c.if-is_due.true in
    rw due (c.is_in_time.ensures ∙ ap (λ (d : Deadlines). is_met d.probe c.args.tick) s.alarms)

pub returns-else-is_due : goal.returns-else-is_due
returns-else-is_due c past h =
    let s = station_there past c.args.self.now c.args.q c.index.result.now c.station-station.result.now c.requires c.index.ensures c.station-station.ensures h
    in
    let due : is_due Probe c.args.tick (on_port (port_at c.args.q) past) ≡ false = ap (λ (d : Deadlines). is_over d.probe c.args.tick) (sym s.alarms) ∙
    sym c.is_due.ensures ∙ c.if-is_due.false in
    rw due c.if-is_due.false
