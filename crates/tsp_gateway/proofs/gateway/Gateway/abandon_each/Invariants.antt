-- What is left to perform are the rows of the ports that are still to come.
use Rattle.std.specs.Prelude.{◌≡◌, ℕ, List, length}
use Rattle.tsp_base.specs.Words.{PutsAtMost}
use Rattle.tsp_rules.specs.{NodePerforms.PerformsAll, NodeRows.abandons_on, NodeRows.for_ports, Values.Placed}
use Rattle.tsp_gateway.specs.{GatewayStands.GatewayStands, GatewayStands.clock_at, Rooms.ports_in, declared.gateway.Gateway.Gateway}
use Rattle.tsp_gateway.proofs.PortsInTurn.{left}
use Rattle.tsp_gateway.proofs.gateway.Gateway.abandon_each.Given as goal

abbrev pub invariant-loop-r : goal.invariant-loop-r
invariant-loop-r g l = record {
  row : (x : ℕ) (last : Gateway) (new : List Placed) → PerformsAll GatewayStands GatewayStands
      (for_ports abandons_on (left l.whole l.q l.r (length l.initial.self.ports.items))) x l.self last (g.D.Desk.acts l.desk) new →
      PerformsAll GatewayStands GatewayStands (for_ports abandons_on (left l.whole l.q 0 (length l.initial.self.ports.items))) x l.initial.self last
      (g.D.Desk.acts l.initial.desk) new;
  ports : ports_in l.self ≡ ports_in l.initial.self;
  clock : clock_at l.self ≡ clock_at l.initial.self;
  room : PutsAtMost l.r (g.D.Desk.spare l.initial.desk) (g.D.Desk.spare l.desk) (g.D.Desk.acts l.initial.desk) (g.D.Desk.acts l.desk);
}
