use Rattle.std.proofs.Common.{◌≡◌, ◌+◌, ◌*◌, ◌/◌, ◌^◌, ◌≤◌, ◌<◌, length, drop, set}
use Rattle.tsp_sends.specs.Trees.{HoldsEarlier}
use Rattle.tsp_sends.proofs.tree.set_leaf.Given as goal

abbrev pub invariant-loop-height : goal.invariant-loop-height
invariant-loop-height l = record {
  below : l.node * 2 ^ l.height < 2 * 2 ^ l.levels;
  node : l.node < 2 * 2 ^ l.levels;
  size : length l.store.nodes ≡ length l.fn.store.nodes;
  earlier : HoldsEarlier (l.node / 2) l.store.nodes;
  leaves : drop (2 ^ l.levels) l.store.nodes ≡ drop (2 ^ l.levels) (set l.fn.store.nodes l.leaf l.fn.at);
  looks : l.store.looks ≤ l.fn.store.looks + 2 * l.height;
}
