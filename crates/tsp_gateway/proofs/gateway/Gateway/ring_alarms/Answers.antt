-- One alarm after the other.
use Rattle.std.proofs.Common.{◌≡◌, ◌+◌, ◌≤◌, arith, refl, ◌∙◌, ap, drop, take, [], slice_index_or}
use Rattle.tsp_rules.{proofs.NodeRowLemmas.All_then, specs.GateRows.alarms_on, specs.Values.Quiet, specs.Values.ALL}
use Rattle.tsp_node.proofs.AlarmCases.{close_after_probe}
use Rattle.tsp_gateway.specs.{Rooms.alarm_room, Rooms.alarms_room, Rooms.peers_at, Rooms.ports_in, GatewayStands.port_at}
use Rattle.tsp_gateway.proofs.AlarmsLemmas.{alarms_room_front, alarms_room_next, all_on_alarms, drop_all, drop_next, nothing_left}
use Rattle.tsp_gateway.proofs.LiftLemmas.{All_same}
use Rattle.tsp_gateway.proofs.gateway.Gateway.ring_alarms.Goals as goal

pub loop-alarm-init : goal.loop-alarm-init
loop-alarm-init g c = record {
  row = λ last new d. d;
  probe = λ e. let bad : ⊥ = cc in absurd bad;
  ports = refl;
  clock = c.requires.later;
  room = record { spare = omega arith; few = omega arith };
}

pub ring_alarm-requires-clause-room : goal.ring_alarm-requires-clause-room
ring_alarm-requires-clause-room g c =
    let inv = c.loop-alarm.invariant in
    let peers = peers_at c.args.q (ports_in c.args.self.now) in
    let alarm = slice_index_or ALL c.loop-alarm.alarm-index Quiet in
    let same : alarm_room (slice_index_or ALL c.loop-alarm.alarm-index Quiet) (peers_at c.args.q (ports_in c.loop-alarm.self)) ≡
    alarm_room (slice_index_or ALL c.loop-alarm.alarm-index Quiet) (peers_at c.args.q (ports_in c.args.self.now)) =
    ap (λ ps. alarm_room alarm (peers_at c.args.q ps)) inv.ports in
    let front = alarms_room_front ALL (c.loop-alarm.alarm-index + 1) (peers_at c.args.q (ports_in c.args.self.now)) in
    let more = alarms_room_next c.loop-alarm.alarm-index (peers_at c.args.q (ports_in c.args.self.now)) c.loop-alarm-test.true in
    omega (arith, same, front, more, inv.room.spare, c.requires.room)

pub ring_alarm-requires-clause-order : goal.ring_alarm-requires-clause-order
ring_alarm-requires-clause-order g c = c.loop-alarm.invariant.probe

pub loop-alarm-preserved : goal.loop-alarm-preserved
loop-alarm-preserved g c =
    let i = c.loop-alarm.alarm-index in
    let inv = c.loop-alarm.invariant in
    let ring = c.ring_alarm.ensures in
    let peers = peers_at c.args.q (ports_in c.args.self.now) in
    let alarm = slice_index_or ALL i Quiet in
    let same : alarm_room (slice_index_or ALL c.loop-alarm.alarm-index Quiet) (peers_at c.args.q (ports_in c.loop-alarm.self)) ≡
    alarm_room (slice_index_or ALL c.loop-alarm.alarm-index Quiet) (peers_at c.args.q (ports_in c.args.self.now)) =
    ap (λ ps. alarm_room alarm (peers_at c.args.q ps)) inv.ports in
    let more = alarms_room_next c.loop-alarm.alarm-index (peers_at c.args.q (ports_in c.args.self.now)) c.loop-alarm-test.true in
    record {
      row = λ last new d. inv.row last new (rw (drop_next ALL i Quiet c.loop-alarm-test.true) (All_then ring.row d));
      probe = λ e part is. ring.over (close_after_probe i e) part is;
      ports = ring.ports ∙ inv.ports;
      clock = ring.clock;
      room = record { spare = omega (arith, more, same, inv.room.spare, ring.room.spare); few = omega (arith, more, same, inv.room.few, ring.room.few) };
    }

pub returns-clause-row : goal.returns-clause-row
returns-clause-row g c =
    let none : drop c.loop-alarm.alarm-index ALL ≡ [] = drop_all c.loop-alarm.alarm-index ALL c.loop-alarm-test.false in
    let left = c.loop-alarm.invariant.row c.loop-alarm.self (g.D.Desk.acts c.loop-alarm.desk) in
    All_same (alarms_on (port_at c.args.q)) (λ past h. all_on_alarms (port_at c.args.q) c.args.tick past) (left (rw none (nothing_left (port_at c.args.q))))

pub returns-clause-room : goal.returns-clause-room
returns-clause-room g c =
    let inv = c.loop-alarm.invariant in
    let peers = peers_at c.args.q (ports_in c.args.self.now) in
    let front : alarms_room (take c.loop-alarm.alarm-index ALL) (peers_at c.args.q (ports_in c.args.self.now)) ≤ alarms_room ALL
    (peers_at c.args.q (ports_in c.args.self.now)) = alarms_room_front ALL c.loop-alarm.alarm-index (peers_at c.args.q (ports_in c.args.self.now)) in
    record { spare = omega (arith, front, inv.room.spare); few = omega (arith, front, inv.room.few) }
