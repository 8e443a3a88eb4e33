use Rattle.std.proofs.Common.{arith, ◌≡◌, ◌+◌, ◌*◌, ◌<◌, ◌-◌, length, true, false, refl, sym, ◌∙◌}
use Rattle.tsp_sends.specs.Deadlines.{is_due, deadline_at}
use Rattle.tsp_sends.proofs.TreeLemmas.{children_inside, IsDueNode_left, IsDueNode_right, IsDueNode_start, IsDueNode_found}
use Rattle.tsp_sends.proofs.tree.descend.Goals as goal

pub loop-height-init : goal.loop-height-init
loop-height-init c = record {
  node = IsDueNode_start c.args.node c.args.height c.args.tick c.args.store.now.nodes c.requires.node.0 c.requires.node.1
      c.requires.due;
  nodes = refl;
  looks = omega arith;
}

pub overflow_mul-node : goal.overflow_mul-node
overflow_mul-node c =
    let some : 0 < c.loop-height.height = c.loop-height-test.true in
    let within : 2 * c.loop-height.node + 1 < length c.args.store.now.nodes = children_inside _ c.loop-height.node c.loop-height.height
    (c.loop-height.height - 1) (omega arith) c.loop-height.invariant.node.inside in
    omega arith

pub read-requires : goal.read-requires
read-requires c =
    let some : 0 < c.loop-height.height = c.loop-height-test.true in
    let within : 2 * c.loop-height.node + 1 < length c.args.store.now.nodes = children_inside _ c.loop-height.node c.loop-height.height
    (c.loop-height.height - 1) (omega arith) c.loop-height.invariant.node.inside in
    rw c.loop-height.invariant.nodes (omega arith)

pub overflow_add-node : goal.overflow_add-node
overflow_add-node c =
    let some : 0 < c.loop-height.height = c.loop-height-test.true in
    let within : 2 * c.loop-height.node + 1 < length c.args.store.now.nodes = children_inside _ c.loop-height.node c.loop-height.height
    (c.loop-height.height - 1) (omega arith) c.loop-height.invariant.node.inside in
    omega arith

pub loop-height-preserved-then-not-is_due : goal.loop-height-preserved-then-not-is_due
loop-height-preserved-then-not-is_due c =
    let some : 0 < c.loop-height.height = c.loop-height-test.true in
    let late : is_due c.args.tick (deadline_at c.args.store.now.nodes (c.loop-height.node * 2)) ≡ false =
    rw (← c.loop-height.invariant.nodes, ← c.read.ensures.value) (sym c.is_due.ensures ∙ c.if-not-is_due.true) in
    record {
      node = IsDueNode_right _ _ _ c.loop-height.node c.loop-height.height (c.loop-height.height - 1) (c.loop-height.node * 2) c.requires.earlier (omega arith)
          (omega arith) c.loop-height.invariant.node late;
      nodes = c.read.ensures.nodes ∙ c.loop-height.invariant.nodes;
      looks = omega (arith, c.read.ensures.looks, c.loop-height.invariant.looks);
    }

pub loop-height-preserved : goal.loop-height-preserved
loop-height-preserved c =
    let some : 0 < c.loop-height.height = c.loop-height-test.true in
    let due : is_due c.args.tick (deadline_at c.args.store.now.nodes (c.loop-height.node * 2)) ≡ true =
    rw (← c.loop-height.invariant.nodes, ← c.read.ensures.value) (sym c.is_due.ensures ∙ c.if-not-is_due.false) in
    record {
      node = IsDueNode_left _ _ _ c.loop-height.node c.loop-height.height (c.loop-height.height - 1) (c.loop-height.node * 2) c.requires.earlier (omega arith)
          (omega arith) c.loop-height.invariant.node due;
      nodes = c.read.ensures.nodes ∙ c.loop-height.invariant.nodes;
      looks = omega (arith, c.read.ensures.looks, c.loop-height.invariant.looks);
    }

pub returns-clause-leaf : goal.returns-clause-leaf
returns-clause-leaf c = IsDueNode_found _ _ _ c.loop-height.node c.loop-height.height (omega (arith, c.loop-height-test.false)) c.loop-height.invariant.node
