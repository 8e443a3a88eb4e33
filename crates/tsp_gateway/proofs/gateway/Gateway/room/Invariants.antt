-- The room of the ports so far, and of those to come.
use Rattle.std.proofs.Common.{◌≡◌, ◌≤◌, ◌+◌, ◌*◌, map, drop}
use Rattle.tsp_node.specs.declared.part.Part.{Part}
use Rattle.tsp_gateway.specs.Rooms.{ports_in, room_of_ports}
use Rattle.tsp_gateway.proofs.gateway.Gateway.room.Given as goal

abbrev pub invariant-loop-part : goal.invariant-loop-part
invariant-loop-part l = record {
  sum : room_of_ports (ports_in l.self) ≡ l.room + room_of_ports (map (λ (part : Part). part.station.peers) (drop l.part-index l.self.ports.items));
  few : l.room ≤ l.part-index * 24256;
}
