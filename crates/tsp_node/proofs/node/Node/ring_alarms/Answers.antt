-- One alarm after the other.
use Rattle.std.proofs.Common.{◌≡◌, ◌+◌, ◌*◌, arith, refl, ◌∙◌, ap, length, take, slice_index_or}
use Rattle.std.proofs.lemmas.List.{take_all}
use Rattle.tsp_base.specs.Words.{for_each}
use Rattle.tsp_base.proofs.PerformsLemmas.{Performs_each_more, Performs_nothing, Performs_same}
use Rattle.tsp_rules.specs.{Answers.due_alarms, Answers.rings_alone, Values.Quiet, Values.ALL}
use Rattle.tsp_node.specs.NodeStands.{peers_in}
use Rattle.tsp_node.proofs.AlarmCases.{all_due, close_after_probe, take_one_more}
use Rattle.tsp_node.proofs.node.Node.ring_alarms.Goals as goal

pub loop-alarm-init : goal.loop-alarm-init
unfolding for_each
loop-alarm-init g c = record {
  row = Performs_nothing;
  probe = λ e. let bad : ⊥ = cc in absurd bad;
  peers = refl;
  clock = c.requires.later;
  room = record { spare = omega arith; few = omega arith };
}

pub ring-requires-clause-turn : goal.ring-requires-clause-turn
ring-requires-clause-turn g c = c.loop-alarm.invariant.probe

pub loop-alarm-preserved : goal.loop-alarm-preserved
loop-alarm-preserved g c =
    let i = c.loop-alarm.alarm-index in
    let inv = c.loop-alarm.invariant in
    let ring = c.ring.ensures in
    let same : length (peers_in c.loop-alarm.self) ≡ length (peers_in c.args.self.now) = ap length inv.peers in
    let more : (c.loop-alarm.alarm-index + 1) * (2 * length (peers_in c.args.self.now) + 4) ≡
    c.loop-alarm.alarm-index * (2 * length (peers_in c.args.self.now) + 4) + (2 * length (peers_in c.args.self.now) + 4) = grind arith in
    record {
      row = rw (take_one_more ALL i Quiet c.loop-alarm-test.true) (Performs_each_more rings_alone (take i ALL) (slice_index_or ALL i Quiet) inv.row ring.row);
      probe = λ e. ring.over (close_after_probe i e);
      peers = ring.peers ∙ inv.peers;
      clock = ring.clock;
      room = record { spare = omega (arith, more, same, inv.room.spare, ring.room.spare); few = omega (arith, more, same, inv.room.few, ring.room.few) };
    }

pub returns-clause-row : goal.returns-clause-row
returns-clause-row g c =
    let all : take c.loop-alarm.alarm-index ALL ≡ ALL = take_all c.loop-alarm.alarm-index ALL c.loop-alarm-test.false in
    Performs_same due_alarms (λ past h. all_due c.args.tick past) (rw all at c.loop-alarm.invariant.row)
