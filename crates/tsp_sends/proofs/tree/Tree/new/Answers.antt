use Rattle.std.proofs.Common.{◌≡◌, ℕ, None, ◌*◌, ◌^◌, ◌≤◌, replicate, ap, ◌∙◌, refl}
use Rattle.tsp_sends.{proofs.PlaceLemmas.IsTree_new, proofs.PlaceLemmas.places_in_new, proofs.PlaceLemmas.nodes_fit, specs.Trees.StoreValue}
use Rattle.tsp_sends.proofs.tree.Tree.new.Goals as goal

pub invariant_of-result : goal.invariant_of-result
invariant_of-result c =
    let shape : (c.in_ok-levels.levels ≤ 60) × (c.args.n ≤ 2 ^ c.in_ok-levels.levels) × ((j : ℕ) → c.args.n ≤ 2 ^ j → c.in_ok-levels.levels ≤ j) =
    rw c.in_ok-levels.ensures.ok_part at c.levels_for.ensures in
    let nodes : c.in_ok-store.store.nodes ≡ replicate (2 * 2 ^ c.in_ok-levels.levels) None = ap (λ (s : StoreValue). s.nodes) c.in_ok-store.ensures ∙
    ap (λ k. replicate k None) (nodes_fit c.in_ok-levels.levels shape.0) in
    rw nodes (IsTree_new c.args.n c.in_ok-levels.levels shape.0 shape.1 shape.2)

pub returns : goal.returns
returns c =
    let shape : (c.in_ok-levels.levels ≤ 60) × (c.args.n ≤ 2 ^ c.in_ok-levels.levels) × ((j : ℕ) → c.args.n ≤ 2 ^ j → c.in_ok-levels.levels ≤ j) =
    rw c.in_ok-levels.ensures.ok_part at c.levels_for.ensures in
    let nodes : c.in_ok-store.store.nodes ≡ replicate (2 * 2 ^ c.in_ok-levels.levels) None = ap (λ (s : StoreValue). s.nodes) c.in_ok-store.ensures ∙
    ap (λ k. replicate k None) (nodes_fit c.in_ok-levels.levels shape.0) in
    rw (nodes, ap (λ (s : StoreValue). s.looks) c.in_ok-store.ensures, places_in_new c.args.n c.in_ok-levels.levels shape.1) refl
