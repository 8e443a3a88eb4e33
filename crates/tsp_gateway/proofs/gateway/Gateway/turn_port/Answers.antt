-- The sends, and then the alarms.
use Rattle.std.proofs.Common.{ap, arith, ◌∙◌}
use Rattle.tsp_rules.{proofs.NodeRowLemmas.All_then, specs.GateRows.turns_on}
use Rattle.tsp_gateway.specs.Rooms.{peers_at}
use Rattle.tsp_gateway.proofs.gateway.Gateway.turn_port.Goals as goal

pub returns-clause-row : goal.returns-clause-row
unfolding turns_on
returns-clause-row g c = All_then c.send.ensures.row c.ring_alarms.ensures.row

pub ring_alarms-requires-clause-port : goal.ring_alarms-requires-clause-port
ring_alarms-requires-clause-port g c = rw c.send.ensures.ports c.requires.port

pub ring_alarms-requires-clause-room : goal.ring_alarms-requires-clause-room
ring_alarms-requires-clause-room g c = rw c.send.ensures.ports (omega (arith, c.send.ensures.room.spare, c.requires.room))

pub returns-clause-ports : goal.returns-clause-ports
returns-clause-ports g c = c.ring_alarms.ensures.ports ∙ c.send.ensures.ports

pub returns-clause-room : goal.returns-clause-room
returns-clause-room g c =
    let send = c.send.ensures.room in
    let alarms = rw (ap (peers_at c.args.q) c.send.ensures.ports) at c.ring_alarms.ensures.room in
    record { spare = omega (arith, send.spare, alarms.spare); few = omega (arith, send.few, alarms.few) }
