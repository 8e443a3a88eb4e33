-- Sends, alarms, and nothing more.
use Rattle.std.proofs.Common.{refl}
use Rattle.tsp_base.proofs.PerformsLemmas.{Performs_then}
use Rattle.tsp_node.proofs.NodeLemmas.{node_begun, node_rests}
use Rattle.tsp_rules.{proofs.BuiltSends.built_due_sends, proofs.EmitsBuilt.emits_built, specs.Answers.answers, specs.Answers.input_row}
use Rattle.tsp_node.proofs.node.Node.turn.Goals as goal

pub returns-clause-row : goal.returns-clause-row
unfolding answers input_row
returns-clause-row g c = Performs_then (node_begun refl (emits_built refl built_due_sends) (c.sends.ensures.row c.args.self.now.clock))
    (Performs_then c.ring_alarms.ensures.row node_rests)
