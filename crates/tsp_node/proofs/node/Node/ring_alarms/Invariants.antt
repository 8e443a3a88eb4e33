-- The alarms so far had their turn; the Close comes right after the Probe.
use Rattle.std.proofs.Common.{◌≡◌, ◌+◌, ◌*◌, ◌≤◌, false, length, take, slice_index_or}
use Rattle.tsp_base.specs.Words.{PutsAtMost, Performs, for_each}
use Rattle.tsp_rules.specs.{Answers.rings_alone, Guards.is_over, Values.Quiet, Values.CloseAlarm, Values.ALL}
use Rattle.tsp_node.specs.NodeStands.{NodeUntaken, clock_at, peers_in}
use Rattle.tsp_node.proofs.node.Node.ring_alarms.Given as goal

abbrev pub invariant-loop-alarm : goal.invariant-loop-alarm
invariant-loop-alarm g l = record {
  row : Performs NodeUntaken NodeUntaken (for_each rings_alone (take l.alarm-index ALL)) l.tick (record { 0 = 0 }) l.initial.self l.self
      (g.D.Desk.acts l.initial.desk) (g.D.Desk.acts l.desk);
  probe : slice_index_or ALL l.alarm-index Quiet ≡ CloseAlarm → is_over l.self.part.station.alarms.probe l.tick ≡ false;
  peers : peers_in l.self ≡ peers_in l.initial.self;
  clock : clock_at l.self ≤ l.tick;
  room : PutsAtMost (l.alarm-index * (2 * length (peers_in l.initial.self) + 4)) (g.D.Desk.spare l.initial.desk) (g.D.Desk.spare l.desk)
      (g.D.Desk.acts l.initial.desk) (g.D.Desk.acts l.desk);
}
