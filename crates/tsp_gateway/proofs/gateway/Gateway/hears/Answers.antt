-- The station says whether it heeds a peer, and whose its number is.
use Rattle.std.proofs.Common.{◌≡◌, ◌∙◌, false, refl, sym, true}
use Rattle.tsp_rules.specs.{Guards.is_heard, NodeRows.on_port}
use Rattle.tsp_gateway.{proofs.AnyLemmas.station_there, specs.GatewayStands.port_at}
use Rattle.tsp_gateway.proofs.gateway.Gateway.hears.Goals as goal

pub returns-then-hears : goal.returns-then-hears
returns-then-hears c x past h =
    let s = station_there past c.args.self.now c.args.q c.index.result.now c.station-station.result.now c.requires c.index.ensures c.station-station.ensures h
    in
    let heard : is_heard c.in-Peer.p x (on_port (port_at c.args.q) past) ≡ true = rw (s.peers, s.role) at (sym c.hears.ensures ∙ c.if-hears.true) in
    rw (c.in-Peer.is, heard, s.own) refl

pub returns-else-hears : goal.returns-else-hears
returns-else-hears c x past h =
    let s = station_there past c.args.self.now c.args.q c.index.result.now c.station-station.result.now c.requires c.index.ensures c.station-station.ensures h
    in
    let unheard : is_heard c.in-Peer.p x (on_port (port_at c.args.q) past) ≡ false = rw (s.peers, s.role) at (sym c.hears.ensures ∙ c.if-hears.false) in
    rw (c.in-Peer.is, unheard) c.if-hears.false

pub returns-in-Stranger : goal.returns-in-Stranger
returns-in-Stranger c x past h = rw c.in-Stranger.is refl
