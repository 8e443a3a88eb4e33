-- The station says it.
use Rattle.std.{proofs.Common.ap, proofs.Common.◌∙◌, specs.Option.is_some}
use Rattle.tsp_base.specs.Words.{Deadlines}
use Rattle.tsp_rules.specs.Guards.{is_follow, is_master}
use Rattle.tsp_gateway.proofs.AnyLemmas.{station_there}
use Rattle.tsp_gateway.proofs.gateway.Gateway.is.Goals as goal

pub returns-in-Follows : goal.returns-in-Follows
returns-in-Follows c past h =
    let s = station_there past c.args.self.now c.args.q c.index.result.now c.station-station.result.now c.requires c.index.ensures c.station-station.ensures h
    in
    rw c.in-Follows.is (c.follows.ensures ∙ ap is_follow s.role)

pub returns-in-Leads : goal.returns-in-Leads
returns-in-Leads c past h =
    let s = station_there past c.args.self.now c.args.q c.index.result.now c.station-station.result.now c.requires c.index.ensures c.station-station.ensures h
    in
    rw c.in-Leads.is (c.leads.ensures ∙ ap is_master s.role)

pub returns-in-Goes : goal.returns-in-Goes
returns-in-Goes c past h =
    let s = station_there past c.args.self.now c.args.q c.index.result.now c.station-station.result.now c.requires c.index.ensures c.station-station.ensures h
    in
    rw c.in-Goes.is (c.is_some.ensures ∙ ap is_some c.at.ensures ∙ ap (λ (d : Deadlines). is_some d.close) s.alarms)
