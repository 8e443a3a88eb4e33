-- The Probe, and the LOOPs after the last one.
use Rattle.std.proofs.Common.{◌+◌, ◌∙◌, arith, false, refl, sym, true, ap}
use Rattle.tsp_rules.specs.{Answers.rings, GateRows.alarm_on, Values.Probe}
use Rattle.tsp_rules.{specs.NodeRows.on, specs.NodeRows.spread, proofs.BuiltGate.built_sends_loops, proofs.EmitsBuilt.emits_built}
use Rattle.tsp_gateway.proofs.gateway.Gateway.probe.Goals.{else-rung-via-then-rung+else-ends_probes, else-rung-via-else-rung}
use Rattle.tsp_gateway.proofs.TurnLemmas.{All_turning, All_looped, All_loopless, no_loops, not_last}
use Rattle.tsp_gateway.{specs.GatewayStands.GatewayStands, specs.GatewayStands.port_at, proofs.LiftLemmas.All_from, specs.Rooms.peers_at}
use Rattle.tsp_gateway.proofs.gateway.Gateway.probe.Goals as goal

pub returns-then-ends_probes-clause-row : goal.returns-then-ends_probes-clause-row
unfolding alarm_on
returns-then-ends_probes-clause-row g c =
    let q = c.args.q in
    All_looped q (q + 1) c.ring.ensures.row
    (All_turning q (q + 1) (q + 1) (emits_built refl (built_sends_loops (port_at q) tt)) (omega arith) (omega arith)
    (All_from {p = GatewayStands} (λ past w. w.stands) (c.send_loops.ensures.row c.args.tick)))
    (λ past w. sym (c.probe_rings-rung.ensures past w.stands) ∙ c.if-rung.true) (λ past h. sym (c.ends_probes.ensures past h) ∙ c.if-ends_probes.true)

pub returns-else-rung-clause-row : goal.returns-else-rung-clause-row
unfolding alarm_on
returns-else-rung-clause-row g c =
    let q = c.args.q in
    let x = c.args.tick in
    All_loopless q (q + 1) c.ring.ensures.row (λ past w.
    let later = spread x past (on (port_at q) (rings true false Probe) x past) in
    elim c.else-rung.branch [
      | else-rung-via-then-rung+else-ends_probes b ↦ not_last x q past later (sym (b.ends_probes.ensures later (c.ring.ensures.row.stands past w).stands) ∙
          b.if-ends_probes.false)
      | else-rung-via-else-rung b ↦ no_loops x q past later (sym (c.probe_rings-rung.ensures past w.stands) ∙ b.if-rung.false)
    ])

pub ring-requires-clause-room : goal.ring-requires-clause-room
ring-requires-clause-room g c = omega (arith, c.requires.room)

pub ends_probes-requires : goal.ends_probes-requires
ends_probes-requires g c = rw c.ring.ensures.ports c.requires.port

pub send_loops-requires-clause-port : goal.send_loops-requires-clause-port
send_loops-requires-clause-port g c = rw c.ring.ensures.ports c.requires.port

pub send_loops-requires-clause-room : goal.send_loops-requires-clause-room
send_loops-requires-clause-room g c = omega (arith, ap (peers_at c.args.q) c.ring.ensures.ports, c.ring.ensures.room.spare, c.requires.room)

pub returns-then-ends_probes-clause-room : goal.returns-then-ends_probes-clause-room
returns-then-ends_probes-clause-room g c =
    let same = ap (peers_at c.args.q) c.ring.ensures.ports in
    let ring = c.ring.ensures.room in
    let loops = c.send_loops.ensures.room in
    record { spare = omega (arith, same, ring.spare, loops.spare); few = omega (arith, same, ring.few, loops.few) }

pub returns-else-rung-clause-room : goal.returns-else-rung-clause-room
returns-else-rung-clause-room g c = let ring = c.ring.ensures.room in record { spare = omega (arith, ring.spare); few = omega (arith, ring.few) }
