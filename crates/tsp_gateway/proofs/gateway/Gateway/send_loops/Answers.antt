-- A post to each other peer.
use Rattle.std.proofs.Common.{◌≡◌, ◌∙◌, ap, arith, refl}
use Rattle.tsp_base.specs.Words.{carries_hops, carries_time, MessageValue, body_fits, others}
use Rattle.tsp_acks.specs.declared.station.Station.{Station}
use Rattle.tsp_gateway.proofs.{AnyLemmas.ports_few, AnyLemmas.station_peers, PostLemmas.All_posted, PostLemmas.loops_are}
use Rattle.tsp_gateway.{proofs.LiftLemmas.part_there, specs.GatewayStands.port_at}
use Rattle.tsp_gateway.proofs.gateway.Gateway.send_loops.Goals as goal
use Rattle.tsp_rules.{proofs.BuiltGate.built_sends_loops, proofs.EmitsBuilt.emits_built, specs.GateRows.sends_loops, specs.Values.LoopKind}

pub new-message-requires : goal.new-message-requires
unfolding body_fits carries_time carries_hops
new-message-requires g c = refl

pub returns-clause-row : goal.returns-clause-row
unfolding sends_loops
returns-clause-row g c x =
    let q = c.args.q in
    let there = part_there c.args.self.now q c.index.result.now c.requires.port c.index.ensures in
    let kind : c.new-message.result.kind ≡ LoopKind = ap (λ (m : MessageValue). m.kind) c.new-message.ensures in
    let name = c.copy-name.ensures in
    All_posted q (sends_loops (port_at q)) c.new-message.result kind (emits_built refl (built_sends_loops (port_at q) tt)) there (rw (
      c.port_at.ensures,
      c.station-station.ensures,
    ) at c.repost.ensures.acts)
    (λ past h.
    let s = h.port.station in
    let one : c.copy-name.result ≡ past.name = name ∙ ap (λ (st : Station). st.me.name) c.station-station.ensures ∙ s.name in
    rw (c.new-message.ensures, one, s.own, s.peers) (loops_are (port_at q) past.name (others past.own past.peers)))

pub repost-requires : goal.repost-requires
repost-requires g c = let many = station_peers c.args.self.now c.args.q c.index.result.now c.station-station.result.now c.requires.port c.index.ensures
    c.station-station.ensures in omega (arith, many, c.requires.room)

pub returns-clause-room : goal.returns-clause-room
returns-clause-room g c =
    let many = station_peers c.args.self.now c.args.q c.index.result.now c.station-station.result.now c.requires.port c.index.ensures c.station-station.ensures
    in
    let room = c.repost.ensures.room in
    record { spare = omega (arith, many, room.spare); few = omega (arith, many, room.few) }

pub overflow_cast-q : goal.overflow_cast-q
overflow_cast-q g c = let few = ports_few c.args.self.now in omega (arith, few, c.requires.port)
