use Rattle.std.proofs.Common.{arith, ◌≡◌, ◌≤◌, ◌<◌, ◌^◌, length, set, ap, sym, ◌∙◌}
use Rattle.tsp_sends.proofs.PlaceLemmas.{IsTree_set, places_in_set, places_in_length, leaves_fit}
use Rattle.tsp_sends.{proofs.TreeLemmas.pow_small, specs.Trees.TreeValue}
use Rattle.tsp_sends.proofs.tree.Tree.put.Goals as goal

pub overflow_add-self-inside : goal.overflow_add-self-inside
overflow_add-self-inside c =
    let small : 2 ^ c.self.inside.levels ≤ 2 ^ 60 = pow_small c.self.inside.levels c.self.invariant.small in
    let many = places_in_length c.self.inside.store.nodes c.self.inside.places c.self.inside.levels c.self.invariant in
    let inside : c.args.i < length c.args.self.now.deadlines = c.requires in
    let same : length c.args.self.now.deadlines ≡ c.self.inside.places = ap length (ap (λ (t : TreeValue). t.deadlines) (sym c.self.view_is)) ∙ many in
    rw (leaves_fit c.self.inside.levels c.self.invariant.small) (omega (arith, c.self.invariant.enough))

pub set_leaf-requires-clause-leaf : goal.set_leaf-requires-clause-leaf
set_leaf-requires-clause-leaf c =
    let many = places_in_length c.self.inside.store.nodes c.self.inside.places c.self.inside.levels c.self.invariant in
    let inside : c.args.i < length c.args.self.now.deadlines = c.requires in
    let same : length c.args.self.now.deadlines ≡ c.self.inside.places = ap length (ap (λ (t : TreeValue). t.deadlines) (sym c.self.view_is)) ∙ many in
    rw (leaves_fit c.self.inside.levels c.self.invariant.small) (omega arith, omega (arith, c.self.invariant.enough, c.self.invariant.size))

pub invariant_of-self : goal.invariant_of-self
invariant_of-self c =
    let many = places_in_length c.self.inside.store.nodes c.self.inside.places c.self.inside.levels c.self.invariant in
    let inside : c.args.i < length c.args.self.now.deadlines = c.requires in
    let same : length c.args.self.now.deadlines ≡ c.self.inside.places = ap length (ap (λ (t : TreeValue). t.deadlines) (sym c.self.view_is)) ∙ many in
    let leaves = rw (leaves_fit c.self.inside.levels c.self.invariant.small) at c.set_leaf.ensures.leaves in
    IsTree_set c.self.inside.store.nodes c.set_leaf.new.store.nodes _ _ c.args.i c.args.at (omega arith) c.self.invariant c.set_leaf.ensures.earlier
    c.set_leaf.ensures.size leaves

pub returns-clause-deadlines : goal.returns-clause-deadlines
returns-clause-deadlines c =
    let many = places_in_length c.self.inside.store.nodes c.self.inside.places c.self.inside.levels c.self.invariant in
    let inside : c.args.i < length c.args.self.now.deadlines = c.requires in
    let same : length c.args.self.now.deadlines ≡ c.self.inside.places = ap length (ap (λ (t : TreeValue). t.deadlines) (sym c.self.view_is)) ∙ many in
    let leaves = rw (leaves_fit c.self.inside.levels c.self.invariant.small) at c.set_leaf.ensures.leaves in
    places_in_set c.self.inside.store.nodes c.set_leaf.new.store.nodes c.self.inside.places c.self.inside.levels c.args.i c.args.at (omega arith) leaves
    ∙ ap (λ (t : TreeValue). set t.deadlines c.args.i c.args.at) c.self.view_is

pub returns-clause-looks : goal.returns-clause-looks
returns-clause-looks c = λ k few.
    let many = places_in_length c.self.inside.store.nodes c.self.inside.places c.self.inside.levels c.self.invariant in
    let same : length c.args.self.now.deadlines ≡ c.self.inside.places = ap length (ap (λ (t : TreeValue). t.deadlines) (sym c.self.view_is)) ∙ many in
    let looks = ap (λ (t : TreeValue). t.looks) (sym c.self.view_is) in
    let low : c.self.inside.levels ≤ k = c.self.invariant.tight k (omega (arith, few)) in
    omega (arith, c.set_leaf.ensures.looks, looks)
