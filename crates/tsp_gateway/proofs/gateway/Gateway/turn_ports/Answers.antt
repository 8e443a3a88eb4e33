-- One port after the other.
use Rattle.std.proofs.Common.{◌≡◌, ◌<◌, ◌≤◌, ◌∙◌, ap, arith, length, refl, rules, subst, sym, true, vec_len}
use Rattle.tsp_rules.specs.{GateRows.all_ports, GateRows.turns_on, NodeRows.for_ports, NodeRows.reading_all}
use Rattle.tsp_gateway.specs.{GatewayStands.GatewayTurning, Rooms.peers_at, Rooms.ports_in, Rooms.turn_room}
use Rattle.tsp_gateway.proofs.{TurnLemmas.idle_waits, LiftLemmas.All_same, LiftLemmas.ports_many}
use Rattle.tsp_gateway.proofs.{AnyLemmas.places, RoomLemmas.no_turns, RoomLemmas.turns_few, RoomLemmas.turns_more, RoomLemmas.turns_next}
use Rattle.tsp_gateway.proofs.PortsInTurn.{last_port, next_port, upset_all}
use Rattle.tsp_gateway.proofs.gateway.Gateway.turn_ports.Goals as goal
use Rattle.tsp_gateway.proofs.gateway.Gateway.turn_ports.Goals.{then-not-is_idle, else-not-is_idle}

pub loop-q-init : goal.loop-q-init
loop-q-init g c = let none = no_turns (ports_in c.args.self.now) in record {
  row = λ last new d. d;
  ports = refl;
  clock = c.requires.later;
  room = record { spare = omega (arith, none); few = omega (arith, none) };
}

pub turn_port-requires : goal.turn_port-requires
turn_port-requires g c =
    let old = c.args.self.now in
    let q = c.loop-q.q in
    let i = c.loop-q.invariant in
    let len : vec_len old.ports ≡ length old.ports.items = search rules in
    let many = ports_many old in
    let end = c.len-q-end.ensures in
    let inside : q < length (ports_in old) = omega (arith, len, many, end, c.loop-q-test.true) in
    let next = turns_next q (ports_in old) inside in
    record {
      port = subst (λ ps. q < length ps) (sym i.ports) inside;
      room = subst (λ ps. turn_room (peers_at q ps) ≤ g.D.Desk.spare c.loop-q.desk) (sym i.ports) (omega (arith, next, i.room.spare, c.requires.room));
      tick = c.requires.tick;
      later = i.clock;
    }

-- whether a port is idle may be asked of each
pub is_idle-requires : goal.is_idle-requires
is_idle-requires g c =
    let len = places c.args.self.now in
    let end = c.len-q-end.ensures in
    subst (λ ps. c.loop-q.q < length ps) (sym c.loop-q.invariant.ports) (omega (arith, len, end, c.loop-q-test.true))

pub loop-q-preserved : goal.loop-q-preserved
loop-q-preserved g c =
    let old = c.args.self.now in
    let n = length old.ports.items in
    let q = c.loop-q.q in
    let i = c.loop-q.invariant in
    let len : vec_len old.ports ≡ length old.ports.items = search rules in
    let many = ports_many old in
    let inside : q < n = omega (arith, len, c.len-q-end.ensures, c.loop-q-test.true) in
    let there : q < length (ports_in c.loop-q.self) = subst (λ ps. q < length ps) (sym i.ports) (omega (arith, inside, many)) in
    let more = turns_more q (ports_in old) (omega (arith, inside, many)) in
    let took : turn_room (peers_at q (ports_in c.loop-q.self)) ≡ turn_room (peers_at q (ports_in old)) = ap (λ ps. turn_room (peers_at q ps)) i.ports in
    elim c.if-not-is_idle.branch [
      | then-not-is_idle w ↦
          let turn = w.turn_port.ensures in
          rw (w.self-is, w.desk-is) (record {
            row = λ last new d. i.row last new (next_port turns_on true 0 q n c.args.tick inside refl turn.row d);
            ports = turn.ports ∙ i.ports;
            clock = turn.clock;
            room = record { spare = omega (arith, more, took, i.room.spare, turn.room.spare); few = omega (arith, more, took, i.room.few, turn.room.few) };
          })
      | else-not-is_idle w ↦
          rw (w.self-is, w.desk-is) (record {
            row = λ last new d. i.row last new (next_port turns_on true 0 q n c.args.tick inside refl (idle_waits c.args.tick q c.loop-q.self c.is_idle.result
                there w.if-not-is_idle.false c.is_idle.ensures) d);
            ports = i.ports;
            clock = i.clock;
            room = record { spare = omega (arith, more, i.room.spare); few = omega (arith, more, i.room.few) };
          })
    ]

pub returns-clause-row : goal.returns-clause-row
unfolding reading_all
returns-clause-row g c =
    let old = c.args.self.now in
    let len : vec_len old.ports ≡ length old.ports.items = search rules in
    let end = c.len-q-end.ensures in
    All_same (reading_all all_ports (for_ports turns_on)) (λ past h. refl)
    (upset_all turns_on true 0 c.args.tick (λ past h. h.stands)
    (c.loop-q.invariant.row c.loop-q.self (g.D.Desk.acts c.loop-q.desk)
    (last_port {P = GatewayTurning c.loop-q.q} turns_on true 0 c.loop-q.q (length old.ports.items) c.args.tick (omega (arith, len, end, c.loop-q-test.false))
    (λ past h. h.stands))))

pub returns-clause-room : goal.returns-clause-room
returns-clause-room g c =
    let few = turns_few c.loop-q.q (ports_in c.args.self.now) in
    record { spare = omega (arith, few, c.loop-q.invariant.room.spare); few = omega (arith, few, c.loop-q.invariant.room.few) }
