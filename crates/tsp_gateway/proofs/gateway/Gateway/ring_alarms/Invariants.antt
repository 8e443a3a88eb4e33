-- What is left to perform are the alarms that are still to come; the Close comes right after the Probe.
use Rattle.std.proofs.Common.{◌≡◌, ◌+◌, ◌≤◌, List, drop, take, slice_index_or}
use Rattle.tsp_rules.specs.{Values.Placed, Values.Quiet, Values.CloseAlarm, Values.ALL, NodePerforms.PerformsAll}
use Rattle.tsp_base.specs.Words.{PutsAtMost}
use Rattle.tsp_gateway.specs.Dues.{HasProbed}
use Rattle.tsp_gateway.specs.{GatewayStands.GatewayTurning, GatewayStands.clock_at, GatewayStands.port_at, declared.gateway.Gateway.Gateway}
use Rattle.tsp_gateway.{specs.Rooms.alarms_room, specs.Rooms.peers_at, specs.Rooms.ports_in, proofs.AlarmsLemmas.all_on}
use Rattle.tsp_gateway.proofs.gateway.Gateway.ring_alarms.Given as goal

abbrev pub invariant-loop-alarm : goal.invariant-loop-alarm
invariant-loop-alarm g l = record {
  row : (last : Gateway) (new : List Placed) → PerformsAll (GatewayTurning (l.q + 1)) (GatewayTurning (l.q + 1)) (all_on (port_at l.q) (drop l.alarm-index ALL))
      l.tick l.self last (g.D.Desk.acts l.desk) new →
      PerformsAll (GatewayTurning (l.q + 1)) (GatewayTurning (l.q + 1)) (all_on (port_at l.q) ALL) l.tick l.initial.self last (g.D.Desk.acts l.initial.desk)
      new;
  probe : slice_index_or ALL l.alarm-index Quiet ≡ CloseAlarm → HasProbed l.q l.tick l.self;
  ports : ports_in l.self ≡ ports_in l.initial.self;
  clock : clock_at l.self ≤ l.tick;
  room : PutsAtMost (alarms_room (take l.alarm-index ALL) (peers_at l.q (ports_in l.initial.self))) (g.D.Desk.spare l.initial.desk) (g.D.Desk.spare l.desk)
      (g.D.Desk.acts l.initial.desk) (g.D.Desk.acts l.desk);
}
