-- The next port follows a master, or is passed over.
use Rattle.std.proofs.Common.{◌≡◌, ◌∙◌, ap, arith, sym, length, rules, vec_len, Option}
use Rattle.tsp_rules.specs.{NodeRows.NodePast, Values.PeerId}
use Rattle.tsp_gateway.specs.{GatewayStands.GatewayStands, Standings.followed, Standings.followed_on, Standings.master_of, Standings.or_else}
use Rattle.tsp_gateway.proofs.{AnyLemmas.places, AnyLemmas.station_there, ReadingLemmas.followed_end, ReadingLemmas.followed_step}
use Rattle.tsp_gateway.proofs.gateway.Gateway.followed.Goals.{After-master_of}
use Rattle.tsp_rules.specs.GateRows.{ports_from}
use Rattle.std.specs.Prelude.{drop, ◌+◌, ◌<◌}
use Rattle.tsp_gateway.specs.Rooms.{ports_in}
use Rattle.tsp_gateway.proofs.gateway.Gateway.followed.Goals as goal

-- what is left to look at after this port
abbrev later : (c : After-master_of) (past : NodePast) → Option PeerId
later c past = followed_on past (ports_from (c.loop-q.q + 1) (drop (c.loop-q.q + 1) past.ports))

-- the rest of the ports, from this one on
here : (c : After-master_of) (past : NodePast) → GatewayStands past c.args.self.now → followed past ≡ or_else c.master_of.result (later c past)
here c past h =
    let g = c.args.self.now in
    let len : vec_len g.ports ≡ length g.ports.items = search rules in
    let end = c.len-q-end.ensures in
    let many = h.many in
    let within : c.loop-q.q < length (ports_in g) = omega (arith, end, places g, c.loop-q-test.true) in
    let s = station_there past g c.loop-q.q c.index.result.now c.station.result.now within c.index.ensures c.station.ensures h in
    let inside : c.loop-q.q < length past.ports = omega (arith, len, end, many, c.loop-q-test.true) in
    c.loop-q.invariant past h
    ∙ followed_step past past.ports c.loop-q.q c.loop-q.q (c.loop-q.q + 1) inside (omega arith)
    ∙ ap (λ (o : Option PeerId). or_else o (later c past)) (sym (ap master_of s.role) ∙ sym c.master_of.ensures)

pub returns-in-Some : goal.returns-in-Some
returns-in-Some c past h =
    let so = (goal.at.returns-in-Some c).After-master_of in
    sym (here so past h ∙ ap (λ (o : Option PeerId). or_else o (later so past)) c.in-Some.is)

pub loop-q-preserved : goal.loop-q-preserved
loop-q-preserved c past h =
    let so = (goal.at.loop-q-preserved c).After-master_of in
    here so past h ∙ ap (λ (o : Option PeerId). or_else o (later so past)) c.in-None.is

pub returns : goal.returns
returns c past h =
    let len : vec_len c.args.self.now.ports ≡ length c.args.self.now.ports.items = search rules in
    let end = c.len-q-end.ensures in
    let many = h.many in
    sym (c.loop-q.invariant past h ∙ followed_end past past.ports c.loop-q.q c.loop-q.q (omega (arith, len, end, many, c.loop-q-test.false)))
