use Rattle.std.proofs.Common.{arith, ◌≡◌, ◌+◌, ◌*◌, ◌/◌, ◌^◌, ◌≤◌, ◌<◌, length, refl, ◌∙◌, length-set}
use Rattle.tsp_base.specs.Words.{earlier}
use Rattle.tsp_sends.specs.Deadlines.{deadline_at}
use Rattle.tsp_sends.proofs.TreeLemmas.{HoldsEarlier_set, HoldsEarlier_any, leaves_kept, half_below, at_root}
use Rattle.tsp_sends.proofs.tree.set_leaf.Goals as goal

pub loop-height-init : goal.loop-height-init
loop-height-init c =
    let size : length c.args.store.now.nodes ≡ 2 * 2 ^ c.args.levels = c.requires.size in
    let low : 2 ^ c.args.levels ≤ c.args.leaf = c.requires.leaf.0 in
    let high : c.args.leaf < length c.args.store.now.nodes = c.requires.leaf.1 in
    rw c.write.ensures.nodes (record {
      below = omega arith;
      node = omega arith;
      size = length-set c.args.store.now.nodes c.args.leaf c.args.at;
      earlier = HoldsEarlier_set c.args.store.now.nodes c.args.leaf c.args.at (HoldsEarlier_any _ c.args.leaf c.requires.earlier) high
          (λ some inside. absurd (omega arith));
      leaves = refl;
      looks = omega (arith, c.write.ensures.looks);
    })

pub read-left-requires : goal.read-left-requires
read-left-requires c =
    let node : c.loop-height.node < 2 * 2 ^ c.args.levels = c.loop-height.invariant.node in
    rw (c.loop-height.invariant.size, c.requires.size) (omega arith)

pub read-right-requires : goal.read-right-requires
read-right-requires c =
    let node : c.loop-height.node < 2 * 2 ^ c.args.levels = c.loop-height.invariant.node in
    rw (c.read-left.ensures.nodes, c.loop-height.invariant.size, c.requires.size) (omega arith)

pub write-requires-in-loop-height : goal.write-requires-in-loop-height
write-requires-in-loop-height c =
    let node : c.loop-height.node < 2 * 2 ^ c.args.levels = c.loop-height.invariant.node in
    rw (c.read-right.ensures.nodes, c.read-left.ensures.nodes, c.loop-height.invariant.size, c.requires.size) (omega arith)

pub loop-height-preserved : goal.loop-height-preserved
loop-height-preserved c =
    let node : c.loop-height.node < 2 * 2 ^ c.args.levels = c.loop-height.invariant.node in
    let size : length c.loop-height.store.nodes ≡ 2 * 2 ^ c.args.levels = c.loop-height.invariant.size ∙ c.requires.size in
    let n = c.loop-height.node / 2 in
    let value : c.earlier.result ≡ earlier (deadline_at c.loop-height.store.nodes (2 * (c.loop-height.node / 2)))
    (deadline_at c.loop-height.store.nodes (2 * (c.loop-height.node / 2) + 1)) =
    c.earlier.ensures ∙ rw (c.read-right.ensures.value, c.read-left.ensures.value, c.read-left.ensures.nodes) refl in
    rw (c.write-in-loop-height.ensures.nodes, c.read-right.ensures.nodes, c.read-left.ensures.nodes) (record {
      below = half_below c.loop-height.node c.loop-height.height (2 * 2 ^ c.args.levels) c.loop-height.invariant.below;
      node = omega arith;
      size = length-set c.loop-height.store.nodes (c.loop-height.node / 2) c.earlier.result ∙ c.loop-height.invariant.size;
      earlier = HoldsEarlier_set c.loop-height.store.nodes (c.loop-height.node / 2) c.earlier.result c.loop-height.invariant.earlier (omega arith)
          (λ some inside. value);
      leaves = leaves_kept _ _ c.args.levels (c.loop-height.node / 2) _ (omega arith) c.loop-height.invariant.leaves;
      looks = omega (arith, c.write-in-loop-height.ensures.looks, c.read-right.ensures.looks, c.read-left.ensures.looks, c.loop-height.invariant.looks);
    })

pub returns-clause-earlier : goal.returns-clause-earlier
returns-clause-earlier c =
    let root : c.loop-height.node / 2 ≡ 0 = at_root c.loop-height.node c.loop-height.height c.args.levels (omega (arith, c.loop-height-test.false))
    c.loop-height.invariant.below in
    rw root at c.loop-height.invariant.earlier
