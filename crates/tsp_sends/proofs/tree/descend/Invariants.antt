use Rattle.std.proofs.Common.{◌≡◌, ◌+◌, ◌*◌, ◌^◌, ◌≤◌}
use Rattle.tsp_sends.proofs.TreeLemmas.{IsDueNode}
use Rattle.tsp_sends.proofs.tree.descend.Given as goal

abbrev pub invariant-loop-height : goal.invariant-loop-height
invariant-loop-height l = record {
  node : IsDueNode (l.fn.node * 2 ^ l.fn.height) l.tick l.fn.store.nodes l.node l.height;
  nodes : l.store.nodes ≡ l.fn.store.nodes;
  looks : l.store.looks + l.height ≤ l.fn.store.looks + l.fn.height;
}

abbrev pub decreases-loop-height : goal.decreases-loop-height
decreases-loop-height l = l.height
