use Rattle.std.proofs.Common.{◌≡◌, ◌+◌, ◌≤◌}
use Rattle.tsp_sends.proofs.TreeLemmas.{IsClimbing}
use Rattle.tsp_sends.proofs.tree.first_due_leaf.Given as goal

abbrev pub invariant-loop-height : goal.invariant-loop-height
invariant-loop-height l = record {
  climbing : IsClimbing l.fn.leaf l.tick l.fn.store.nodes l.levels l.node l.height;
  nodes : l.store.nodes ≡ l.fn.store.nodes;
  looks : l.store.looks ≤ l.fn.store.looks + l.height;
}
