-- No send is open in empty slots, and the tree has no deadlines.
use Rattle.std.proofs.Common.{ap}
use Rattle.tsp_sends.specs.Trees.{TreeValue}
use Rattle.tsp_sends.proofs.SendsLemmas.{IsSends_empty, peers_of_empty, sending_to_empty}
use Rattle.tsp_sends.proofs.sends.Sends.new.Goals as goal

pub invariant_of-result : goal.invariant_of-result
invariant_of-result c = IsSends_empty c.args.peers.now _ _ c.requires c.in_ok-slots.ensures (ap (λ (t : TreeValue). t.deadlines) c.in_ok-tree.ensures)

pub returns-clause-peers : goal.returns-clause-peers
returns-clause-peers c = rw c.in_ok-slots.ensures (peers_of_empty c.args.peers.now)

pub returns-clause-sends : goal.returns-clause-sends
returns-clause-sends c = λ p. rw c.in_ok-slots.ensures (sending_to_empty c.args.peers.now p)
