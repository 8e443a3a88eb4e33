-- Sends, alarms, and then what is taken.
use Rattle.std.proofs.Common.{arith, ap, length, refl, ◌∙◌}
use Rattle.tsp_base.proofs.PerformsLemmas.{Performs_then}
use Rattle.tsp_node.proofs.NodeLemmas.{node_begun}
use Rattle.tsp_rules.{proofs.BuiltSends.built_due_sends, proofs.EmitsBuilt.emits_built, specs.Answers.answers, specs.Answers.input_row}
use Rattle.tsp_node.proofs.node.Node.take.Goals as goal

pub returns-clause-row : goal.returns-clause-row
unfolding answers input_row
returns-clause-row g c =
    Performs_then (node_begun refl (emits_built refl built_due_sends) (c.sends.ensures.row c.args.self.now.clock))
    (Performs_then c.ring_alarms.ensures.row c.take_in.ensures.row)

pub returns-clause-peers : goal.returns-clause-peers
returns-clause-peers g c = c.take_in.ensures.peers ∙ (c.ring_alarms.ensures.peers ∙ c.sends.ensures.peers)

pub take_in-requires-clause-room : goal.take_in-requires-clause-room
take_in-requires-clause-room g c = omega (
  arith,
  ap length c.sends.ensures.peers,
  ap length c.ring_alarms.ensures.peers,
  c.sends.ensures.room.spare,
  c.ring_alarms.ensures.room.spare,
)

pub returns-clause-room : goal.returns-clause-room
returns-clause-room g c =
    let same = ap length c.sends.ensures.peers in
    let then_same = ap length c.ring_alarms.ensures.peers in
    record {
      spare = omega (arith, same, then_same, c.sends.ensures.room.spare, c.ring_alarms.ensures.room.spare, c.take_in.ensures.room.spare);
      few = omega (arith, same, then_same, c.sends.ensures.room.few, c.ring_alarms.ensures.room.few, c.take_in.ensures.room.few);
    }
