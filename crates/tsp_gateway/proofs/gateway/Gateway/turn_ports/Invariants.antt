-- What is left to perform are the turns of the ports that are still to come.
use Rattle.std.specs.Prelude.{◌≡◌, ◌≤◌, List, length, true}
use Rattle.tsp_base.specs.Words.{PutsAtMost}
use Rattle.tsp_rules.specs.{GateRows.turns_on, NodePerforms.PerformsAll, NodeRows.for_ports, Values.Placed}
use Rattle.tsp_gateway.specs.GatewayStands.{GatewayBegun, GatewayStands, GatewayTurning, clock_at}
use Rattle.tsp_gateway.{proofs.PortsInTurn.left, proofs.RoomLemmas.turns_below, specs.Rooms.ports_in, specs.declared.gateway.Gateway.Gateway}
use Rattle.tsp_gateway.proofs.gateway.Gateway.turn_ports.Given as goal

abbrev pub invariant-loop-q : goal.invariant-loop-q
invariant-loop-q g l = record {
  row : (last : Gateway) (new : List Placed) → PerformsAll (GatewayTurning l.q) GatewayStands
      (for_ports turns_on (left true 0 l.q (length l.initial.self.ports.items))) l.tick l.self last (g.D.Desk.acts l.desk) new →
      PerformsAll GatewayBegun GatewayStands (for_ports turns_on (left true 0 0 (length l.initial.self.ports.items))) l.tick l.initial.self last
      (g.D.Desk.acts l.initial.desk) new;
  ports : ports_in l.self ≡ ports_in l.initial.self;
  clock : clock_at l.self ≤ l.tick;
  room : PutsAtMost (turns_below l.q (ports_in l.initial.self)) (g.D.Desk.spare l.initial.desk) (g.D.Desk.spare l.desk) (g.D.Desk.acts l.initial.desk)
      (g.D.Desk.acts l.desk);
}
