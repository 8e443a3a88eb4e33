use Rattle.std.proofs.Common.{arith, ◌≡◌, ◌+◌, ◌*◌, ◌/◌, ◌^◌, ◌≤◌, false, refl, sym, ◌∙◌}
use Rattle.std.proofs.lemmas.Nat.{pow_pos}
use Rattle.tsp_sends.specs.Deadlines.{is_due, deadline_at}
use Rattle.tsp_sends.proofs.TreeLemmas.{NoneDueBefore_start, IsClimbing_up, IsClimbing_next, IsClimbing_over, IsFirstDueAt_below, climbing_bounds, pow_small}
use Rattle.tsp_sends.proofs.tree.first_due_leaf.Goals as goal
use Rattle.tsp_sends.proofs.tree.first_due_leaf.Goals.{then-node-eq1+else-is_due, else-node-eq1}

pub loop-height-init : goal.loop-height-init
loop-height-init c = record {
  climbing = record { inside = omega arith; before = NoneDueBefore_start c.args.leaf c.args.tick c.args.store.now.nodes };
  nodes = refl;
  looks = omega arith;
}

pub read-requires : goal.read-requires
read-requires c =
    let bounds = climbing_bounds _ _ c.args.store.now.nodes c.args.levels c.loop-height.node c.loop-height.height c.requires.size c.if-node-eq1.true
    (omega arith) c.loop-height.invariant.climbing in
    rw c.loop-height.invariant.nodes (omega (arith, bounds.0))

pub descend-requires-clause-small : goal.descend-requires-clause-small
descend-requires-clause-small c =
    let small : 2 ^ c.args.levels ≤ 2 ^ 60 = pow_small c.args.levels c.requires.small in
    rw (c.read.ensures.nodes, c.loop-height.invariant.nodes) (omega (arith, c.requires.size))

pub descend-requires-clause-node : goal.descend-requires-clause-node
descend-requires-clause-node c =
    let odd = c.if-node-eq1.true in
    let bounds = climbing_bounds _ _ c.args.store.now.nodes c.args.levels c.loop-height.node c.loop-height.height c.requires.size odd (omega arith)
    c.loop-height.invariant.climbing in
    rw (c.read.ensures.nodes, c.loop-height.invariant.nodes) (omega arith, bounds.1)

pub overflow_add-node : goal.overflow_add-node
overflow_add-node c =
    let small : 2 ^ c.args.levels ≤ 2 ^ 60 = pow_small c.args.levels c.requires.small in
    let bounds = climbing_bounds _ _ c.args.store.now.nodes c.args.levels c.loop-height.node c.loop-height.height c.requires.size c.if-node-eq1.true
    (omega arith) c.loop-height.invariant.climbing in
    omega (arith, bounds.0, c.requires.size)

pub loop-height-preserved : goal.loop-height-preserved
loop-height-preserved c =
    elim c.if-node-eq1.branch [
      | then-node-eq1+else-is_due w ↦
          let odd = w.if-node-eq1.true in
          let late : is_due c.args.tick (deadline_at c.args.store.now.nodes c.loop-height.node) ≡ false =
          rw (← c.loop-height.invariant.nodes, ← w.read.ensures.value) (sym w.is_due.ensures ∙ w.if-is_due.false) in
          let even : c.loop-height.node + 1 ≡ 2 * ((c.loop-height.node + 1) / 2) = omega arith in
          record {
            climbing = rw w.node-is (IsClimbing_up _ _ _ _ (c.loop-height.node + 1) c.loop-height.height _ even
                (IsClimbing_next _ _ _ c.args.levels c.loop-height.node c.loop-height.height c.requires.earlier c.requires.size odd (omega arith) late
                c.loop-height.invariant.climbing));
            nodes = rw w.store-is (w.read.ensures.nodes ∙ c.loop-height.invariant.nodes);
            looks = rw w.store-is (omega (arith, w.read.ensures.looks, c.loop-height.invariant.looks));
          }
      | else-node-eq1 w ↦
          let other = w.if-node-eq1.false in
          let even : c.loop-height.node ≡ 2 * (c.loop-height.node / 2) = omega arith in
          record {
            climbing = rw w.node-is (IsClimbing_up _ _ _ _ c.loop-height.node c.loop-height.height _ even c.loop-height.invariant.climbing);
            nodes = rw w.store-is c.loop-height.invariant.nodes;
            looks = rw w.store-is (omega (arith, c.loop-height.invariant.looks));
          }
    ]

pub returns-then-is_due-clause-leaf : goal.returns-then-is_due-clause-leaf
returns-then-is_due-clause-leaf c =
    IsFirstDueAt_below _ _ c.args.store.now.nodes c.loop-height.node c.loop-height.height _ c.loop-height.invariant.climbing.before (rw (
      c.read.ensures.nodes,
      c.loop-height.invariant.nodes,
    ) at c.descend.ensures.leaf)

pub returns-clause-leaf : goal.returns-clause-leaf
returns-clause-leaf c =
    let low : 2 ^ c.args.levels ≤ c.args.leaf = c.requires.leaf.0 in
    IsClimbing_over _ _ c.args.store.now.nodes c.args.levels c.loop-height.node c.loop-height.height c.requires.size (omega (arith, pow_pos c.args.levels))
    (omega (arith, c.loop-height-test.false)) c.loop-height.invariant.climbing
