use Rattle.std.proofs.Common.{arith, ◌≡◌, ◌<◌, length, sym, subst, ◌∙◌}
use Rattle.std.proofs.lemmas.List.Sorted.{length_permutation, All-permutation, IsPermutation-sym}
use Rattle.tsp_group.specs.{Groups.group_of, Groups.IsLargest, Values.IsNear, declared.group.Group.Group}
use Rattle.tsp_group.proofs.LargestGroup.{group_of_IsLargest, IsLargest_unique, group_of_permutation}
use Rattle.tsp_group.proofs.Majority.{IsLargest_near, IsLargest_majority}
use Rattle.tsp_group.proofs.sweep.largest.Goals as goal

pub largest_sorted-requires-clause-some : goal.largest_sorted-requires-clause-some
largest_sorted-requires-clause-some c = omega (arith, length_permutation _ _ c.sort.ensures.same, c.requires.some)

group_is : (c : goal.After-largest_sorted) → c.largest_sorted.result ≡ group_of c.args.span c.args.values.now.items
group_is c =
    let some : 0 < length c.sort.new.self.items = omega (arith, length_permutation _ _ c.sort.ensures.same, c.requires.some) in
    c.largest_sorted.ensures.group ∙ group_of_permutation c.args.span c.args.values.now.items c.sort.new.self.items c.sort.ensures.same c.requires.some some

is_largest : (c : goal.After-largest_sorted) → IsLargest c.args.span c.args.values.now.items c.largest_sorted.result
is_largest c = subst (λ (g : Group). IsLargest c.args.span c.args.values.now.items g) (sym (group_is c)) (group_of_IsLargest c.args.span c.args.values.now.items
    c.requires.some)

pub returns-clause-group : goal.returns-clause-group
returns-clause-group c = group_is c

pub returns-clause-largest : goal.returns-clause-largest
returns-clause-largest c = is_largest c

pub returns-clause-only : goal.returns-clause-only
returns-clause-only c other h = IsLargest_unique c.args.span c.args.values.now.items other c.largest_sorted.result h (is_largest c)

pub returns-clause-majority : goal.returns-clause-majority
returns-clause-majority c = IsLargest_majority c.args.span c.args.values.now.items c.largest_sorted.result (is_largest c)

pub returns-clause-mean : goal.returns-clause-mean
returns-clause-mean c = IsLargest_near c.args.span c.args.values.now.items c.largest_sorted.result
    (All-permutation IsNear c.sort.new.self.items c.args.values.now.items (IsPermutation-sym _ _ c.sort.ensures.same) c.sort.ensures.near) (is_largest c)

pub returns-clause-looks : goal.returns-clause-looks
returns-clause-looks c = omega (arith, length_permutation _ _ c.sort.ensures.same, c.largest_sorted.ensures.looks, c.sort.ensures.looks)
