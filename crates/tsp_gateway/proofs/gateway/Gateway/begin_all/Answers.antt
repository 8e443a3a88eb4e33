-- One port after the other.
use Rattle.std.proofs.Common.{◌≡◌, ◌<◌, ◌∙◌, arith, length, refl, rules, subst, sym, true, vec_len}
use Rattle.tsp_rules.specs.{GateRows.all_ports, GateRows.boots_on, NodeRows.for_ports, NodeRows.reading_all}
use Rattle.tsp_gateway.proofs.{AnyLemmas.places, LiftLemmas.All_same, PortsInTurn.last_port, PortsInTurn.next_port, PortsInTurn.upset_all}
use Rattle.tsp_gateway.proofs.gateway.Gateway.begin_all.Goals as goal

pub loop-q-init : goal.loop-q-init
loop-q-init g c = record { row = λ last new d. d; ports = refl; clock = refl; room = record { spare = omega arith; few = omega arith } }

pub begin-requires : goal.begin-requires
begin-requires g c =
    let old = c.args.self.now in
    let len = places old in
    let end = c.len-q-end.ensures in
    record {
      port = subst (λ ps. c.loop-q.q < length ps) (sym c.loop-q.invariant.ports) (omega (arith, len, end, c.loop-q-test.true));
      tick = c.requires.tick;
      room = omega (arith, len, end, c.loop-q-test.true, c.loop-q.invariant.room.spare, c.requires.room);
    }

pub loop-q-preserved : goal.loop-q-preserved
loop-q-preserved g c =
    let old = c.args.self.now in
    let n = length old.ports.items in
    let q = c.loop-q.q in
    let i = c.loop-q.invariant in
    let len : vec_len old.ports ≡ length old.ports.items = search rules in
    let inside : q < n = omega (arith, len, c.len-q-end.ensures, c.loop-q-test.true) in
    let one = c.begin.ensures in
    record {
      row = λ last new d. i.row last new (next_port boots_on true 0 q n c.args.tick inside refl one.row d);
      ports = one.ports ∙ i.ports;
      clock = one.clock ∙ i.clock;
      room = record { spare = omega (arith, i.room.spare, one.room.spare); few = omega (arith, i.room.few, one.room.few) };
    }

pub returns-clause-row : goal.returns-clause-row
unfolding reading_all
returns-clause-row g c =
    let old = c.args.self.now in
    let len : vec_len old.ports ≡ length old.ports.items = search rules in
    let end = c.len-q-end.ensures in
    All_same (reading_all all_ports (for_ports boots_on)) (λ past h. refl)
    (upset_all boots_on true 0 c.args.tick (λ past h. h)
    (c.loop-q.invariant.row c.loop-q.self (g.D.Desk.acts c.loop-q.desk) (last_port boots_on true 0 c.loop-q.q (length old.ports.items) c.args.tick
    (omega (arith, len, end, c.loop-q-test.false)) (λ past h. h))))

pub returns-clause-room : goal.returns-clause-room
returns-clause-room g c =
    let old = c.args.self.now in
    let len = places old in
    let end = c.len-q-end.ensures in
    let auto = c.loop-q.auto in
    record { spare = omega (arith, len, end, auto, c.loop-q.invariant.room.spare); few = omega (arith, len, end, auto, c.loop-q.invariant.room.few) }
