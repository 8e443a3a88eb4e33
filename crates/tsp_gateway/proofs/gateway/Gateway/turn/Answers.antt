-- All turns, and nothing more.
use Rattle.std.proofs.Common.{arith}
use Rattle.tsp_rules.{proofs.NodeRowLemmas.All_then, specs.GateRows.answers_all, specs.GateRows.input_all, specs.NodeRows.nothing_at_all}
use Rattle.tsp_gateway.{proofs.LiftLemmas.All_nothing, proofs.RoomLemmas.turn_room_few, specs.Rooms.ports_in}
use Rattle.tsp_gateway.proofs.gateway.Gateway.turn.Goals as goal

pub returns-clause-row : goal.returns-clause-row
unfolding answers_all input_all nothing_at_all
returns-clause-row g c = All_then c.turn_ports.ensures.row All_nothing

pub returns-clause-room : goal.returns-clause-room
returns-clause-room g c =
    let few = turn_room_few (ports_in c.args.self.now) in
    record { spare = omega (arith, few, c.turn_ports.ensures.room.spare); few = omega (arith, few, c.turn_ports.ensures.room.few) }
