-- What is left to perform are the rows of the ports that are still to come.
use Rattle.std.specs.Prelude.{ℕ, List, length, false}
use Rattle.tsp_base.specs.Words.{PutsAtMost}
use Rattle.tsp_rules.specs.{GateRows.reposts_on, NodePerforms.PerformsAll, NodeRows.for_ports, Values.Placed}
use Rattle.tsp_gateway.specs.{GatewayStands.GatewayStands, Rooms.ports_in, declared.gateway.Gateway.Gateway}
use Rattle.tsp_gateway.proofs.{PortsInTurn.left, RoomLemmas.peers_below}
use Rattle.tsp_gateway.proofs.gateway.Gateway.forward.Given as goal

abbrev pub invariant-loop-r : goal.invariant-loop-r
invariant-loop-r g l = record {
  row : (x : ℕ) (last : Gateway) (new : List Placed) → PerformsAll GatewayStands GatewayStands
      (for_ports (reposts_on l.m) (left false l.q l.r (length l.self.ports.items))) x l.self last (g.D.Desk.acts l.desk) new →
      PerformsAll GatewayStands GatewayStands (for_ports (reposts_on l.m) (left false l.q 0 (length l.self.ports.items))) x l.self last
      (g.D.Desk.acts l.initial.desk) new;
  room : PutsAtMost (peers_below l.r (ports_in l.self)) (g.D.Desk.spare l.initial.desk) (g.D.Desk.spare l.desk) (g.D.Desk.acts l.initial.desk)
      (g.D.Desk.acts l.desk);
}
