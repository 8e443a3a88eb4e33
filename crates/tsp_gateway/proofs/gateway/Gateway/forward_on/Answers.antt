-- A post to each other peer, where the port is awake.
use Rattle.std.proofs.Common.{◌≡◌, ◌∙◌, ap, arith, false, refl, sym, true, not}
use Rattle.tsp_rules.{specs.GateRows.is_awake_on, specs.GateRows.reposts, specs.GateRows.reposts_on, proofs.BuiltGate.built_reposts}
use Rattle.tsp_rules.{specs.Guards.is_starting_role, specs.Values.Role, proofs.EmitsBuilt.emits_built}
use Rattle.tsp_gateway.{specs.GatewayStands.port_at, proofs.PostLemmas.All_posted}
use Rattle.tsp_gateway.proofs.AnyLemmas.{station_there, station_peers}
use Rattle.tsp_gateway.proofs.LiftLemmas.{All_nothing, All_same, part_there}
use Rattle.tsp_gateway.proofs.gateway.Gateway.forward_on.Goals as goal

pub returns-then-is_awake-clause-row : goal.returns-then-is_awake-clause-row
unfolding reposts_on reposts
returns-then-is_awake-clause-row g c x =
    let r = c.args.r in
    let m = c.args.m.now in
    let there = part_there c.args.self.now r c.index.result.now c.requires.port c.index.ensures in
    All_same (reposts_on m (port_at r))
    (λ past h.
    let s = station_there past c.args.self.now r c.index.result.now c.station-station.result.now c.requires.port c.index.ensures c.station-station.ensures h in
    let awake : is_awake_on past (port_at r) ≡ true = ap (λ (role : Role). not (is_starting_role role)) (sym s.role) ∙ sym c.is_awake.ensures ∙
    c.if-is_awake.true in
    rw awake refl)
    (All_posted r (reposts m) m c.requires.kind (emits_built (rw c.requires.kind refl) (built_reposts m tt)) there (rw (
      c.port_at.ensures,
      c.station-station.ensures,
    ) at c.repost.ensures.acts)
    (λ past h. let s = h.port.station in rw (s.own, s.peers) refl))

pub returns-else-is_awake-clause-row : goal.returns-else-is_awake-clause-row
unfolding reposts_on
returns-else-is_awake-clause-row g c x =
    let r = c.args.r in
    All_same (reposts_on c.args.m.now (port_at r))
    (λ past h.
    let s = station_there past c.args.self.now r c.index.result.now c.station-station.result.now c.requires.port c.index.ensures c.station-station.ensures h in
    let asleep : is_awake_on past (port_at r) ≡ false = ap (λ (role : Role). not (is_starting_role role)) (sym s.role) ∙ sym c.is_awake.ensures ∙
    c.if-is_awake.false in
    rw asleep refl)
    All_nothing

pub repost-requires : goal.repost-requires
repost-requires g c = let many = station_peers c.args.self.now c.args.r c.index.result.now c.station-station.result.now c.requires.port c.index.ensures
    c.station-station.ensures in omega (arith, many, c.requires.room)

pub returns-then-is_awake-clause-room : goal.returns-then-is_awake-clause-room
returns-then-is_awake-clause-room g c =
    let many = station_peers c.args.self.now c.args.r c.index.result.now c.station-station.result.now c.requires.port c.index.ensures c.station-station.ensures
    in
    let room = c.repost.ensures.room in
    record { spare = omega (arith, many, room.spare); few = omega (arith, many, room.few) }
