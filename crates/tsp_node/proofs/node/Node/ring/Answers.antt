-- What the port does is what the node does.
use Rattle.std.proofs.Common.{true, false, refl}
use Rattle.tsp_rules.specs.Answers.{rings_alone}
use Rattle.tsp_node.proofs.{NodeLemmas.node_by, TakeEmits.emits_rings}
use Rattle.tsp_node.proofs.node.Node.ring.Goals as goal

pub returns-clause-row : goal.returns-clause-row
unfolding rings_alone
returns-clause-row g c = node_by refl (emits_rings true false c.args.alarm) (c.ring.ensures.row c.requires.turn)
