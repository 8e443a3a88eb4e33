-- All turns, and then what is taken.
use Rattle.std.proofs.Common.{◌+◌, ◌*◌, ◌<◌, ◌≤◌, ap, arith, length, subst, sym}
use Rattle.tsp_rules.{proofs.NodeRowLemmas.All_then, specs.GateRows.answers_all, specs.GateRows.input_all}
use Rattle.tsp_gateway.{proofs.RoomLemmas.take_room, specs.Rooms.peers_sum, specs.Rooms.peers_at, specs.Rooms.ports_in}
use Rattle.tsp_gateway.proofs.gateway.Gateway.take.Goals as goal

pub take_in-requires : goal.take_in-requires
take_in-requires g c =
    let q = c.args.port.0 in
    let room = take_room q (ports_in c.args.self.now) c.requires.port in
    let same = c.turn_ports.ensures.ports in
    record {
      port = subst (λ ps. q < length ps) (sym same) c.requires.port;
      room = subst (λ ps. 2 * peers_at q ps + peers_sum ps + 24 ≤ g.D.Desk.spare c.turn_ports.new.desk) (sym same) (omega (
        arith,
        room,
        c.requires.room,
        c.turn_ports.ensures.room.spare,
      ));
      tick = (c.requires.tick, c.turn_ports.ensures.clock);
    }

pub returns-clause-row : goal.returns-clause-row
unfolding answers_all input_all
returns-clause-row g c = All_then c.turn_ports.ensures.row c.take_in.ensures.row

pub returns-clause-room : goal.returns-clause-room
returns-clause-room g c =
    let q = c.args.port.0 in
    let room = take_room q (ports_in c.args.self.now) c.requires.port in
    let took = ap (λ ps. 2 * peers_at q ps + peers_sum ps + 24) c.turn_ports.ensures.ports in
    record {
      spare = omega (arith, room, took, c.turn_ports.ensures.room.spare, c.take_in.ensures.room.spare);
      few = omega (arith, room, took, c.turn_ports.ensures.room.few, c.take_in.ensures.room.few);
    }
