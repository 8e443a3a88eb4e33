-- One port after the other.
use Rattle.std.proofs.Common.{◌≡◌, ◌<◌, arith, false, length, refl, rules, vec_len, eq-eqb}
use Rattle.std.proofs.lemmas.Bool.{ne_eqb}
use Rattle.tsp_rules.specs.{GateRows.forwards, GateRows.reposts_on, NodeRows.reading_all}
use Rattle.tsp_gateway.{proofs.AnyLemmas.places, proofs.LiftLemmas.All_same, proofs.LiftLemmas.ports_many, specs.GatewayStands.port_at, specs.Rooms.ports_in}
use Rattle.tsp_gateway.proofs.PortsInTurn.{last_port, next_port, no_port, upset_all}
use Rattle.tsp_gateway.proofs.RoomLemmas.{no_peers, peers_few, peers_more, peers_next}
use Rattle.tsp_gateway.proofs.gateway.Gateway.forward.Goals as goal
use Rattle.tsp_gateway.proofs.gateway.Gateway.forward.Goals.{then-r-q, else-r-q}

pub loop-r-init : goal.loop-r-init
loop-r-init g c = let none = no_peers (ports_in c.args.self.now) in record {
  row = λ x last new d. d;
  room = record { spare = omega (arith, none); few = omega (arith, none) };
}

pub forward_on-requires : goal.forward_on-requires
forward_on-requires g c =
    let ps = ports_in c.args.self.now in
    let len = places c.args.self.now in
    let end = c.len-r-end.ensures in
    let inside : c.loop-r.r < length ps = omega (arith, len, end, c.loop-r-test.true) in
    let next = peers_next c.loop-r.r ps inside in
    record { kind = c.requires.kind; port = inside; room = omega (arith, next, c.loop-r.invariant.room.spare, c.requires.room) }

pub loop-r-preserved : goal.loop-r-preserved
loop-r-preserved g c =
    let self = c.args.self.now in
    let ps = ports_in self in
    let n = length self.ports.items in
    let r = c.loop-r.r in
    let i = c.loop-r.invariant in
    let len : vec_len self.ports ≡ length self.ports.items = search rules in
    let inside : r < n = omega (arith, len, c.len-r-end.ensures, c.loop-r-test.true) in
    let among : r < length ps = omega (arith, inside, ports_many self) in
    let more = peers_more r ps among in
    elim c.if-r-q.branch [
      | then-r-q w ↦ rw w.desk-is (record {
        row = λ x last new d. i.row x last new (next_port (reposts_on c.args.m.now) false c.args.q r n x inside (let other = ne_eqb r c.args.q w.if-r-q.true in
            rw other refl) (w.forward_on.ensures.row x) d);
        room = record {
          spare = omega (arith, more, i.room.spare, w.forward_on.ensures.room.spare);
          few = omega (arith, more, i.room.few, w.forward_on.ensures.room.few);
        };
      })
      | else-r-q w ↦ rw w.desk-is (record {
        row = λ x last new d. i.row x last new (no_port (reposts_on c.args.m.now) false c.args.q r n x inside (let same = eq-eqb r c.args.q w.if-r-q.false in
            rw same refl) d);
        room = record { spare = omega (arith, more, i.room.spare); few = omega (arith, more, i.room.few) };
      })
    ]

pub returns-clause-row : goal.returns-clause-row
unfolding forwards reading_all
returns-clause-row g c x =
    let self = c.args.self.now in
    let len : vec_len self.ports ≡ length self.ports.items = search rules in
    let end = c.len-r-end.ensures in
    All_same (forwards (port_at c.args.q) c.args.m.now) (λ past h. refl)
    (upset_all (reposts_on c.args.m.now) false c.args.q x (λ past h. h)
    (c.loop-r.invariant.row x self (g.D.Desk.acts c.loop-r.desk) (last_port (reposts_on c.args.m.now) false c.args.q c.loop-r.r (length self.ports.items) x
    (omega (arith, len, end, c.loop-r-test.false)) (λ past h. h))))

pub returns-clause-room : goal.returns-clause-room
returns-clause-room g c =
    let few = peers_few c.loop-r.r (ports_in c.args.self.now) in
    record { spare = omega (arith, few, c.loop-r.invariant.room.spare); few = omega (arith, few, c.loop-r.invariant.room.few) }
