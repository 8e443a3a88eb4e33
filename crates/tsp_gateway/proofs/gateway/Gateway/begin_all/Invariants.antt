-- What is left to perform are the rows of the ports that are still to come.
use Rattle.std.specs.Prelude.{◌≡◌, ◌*◌, List, length, true}
use Rattle.tsp_base.specs.Words.{PutsAtMost}
use Rattle.tsp_rules.specs.{GateRows.boots_on, NodePerforms.PerformsAll, NodeRows.for_ports, Values.Placed}
use Rattle.tsp_gateway.specs.{GatewayStands.GatewayStands, GatewayStands.clock_at, Rooms.ports_in, declared.gateway.Gateway.Gateway}
use Rattle.tsp_gateway.proofs.PortsInTurn.{left}
use Rattle.tsp_gateway.proofs.gateway.Gateway.begin_all.Given as goal

abbrev pub invariant-loop-q : goal.invariant-loop-q
invariant-loop-q g l = record {
  row : (last : Gateway) (new : List Placed) → PerformsAll GatewayStands GatewayStands
      (for_ports boots_on (left true 0 l.q (length l.initial.self.ports.items))) l.tick l.self last (g.D.Desk.acts l.desk) new →
      PerformsAll GatewayStands GatewayStands (for_ports boots_on (left true 0 0 (length l.initial.self.ports.items))) l.tick l.initial.self last
      (g.D.Desk.acts l.initial.desk) new;
  ports : ports_in l.self ≡ ports_in l.initial.self;
  clock : clock_at l.self ≡ clock_at l.initial.self;
  room : PutsAtMost (2 * l.q) (g.D.Desk.spare l.initial.desk) (g.D.Desk.spare l.desk) (g.D.Desk.acts l.initial.desk) (g.D.Desk.acts l.desk);
}
