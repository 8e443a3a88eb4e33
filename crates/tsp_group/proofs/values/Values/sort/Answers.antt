use Rattle.std.proofs.lemmas.List.Sorted.{All-permutation, length_permutation}
use Rattle.std.proofs.Common.{arith}
use Rattle.tsp_group.{proofs.Orders.ascending_from_sort, specs.Values.IsNear}
use Rattle.tsp_group.proofs.values.Values.sort.Goals as goal

pub invariant_of-self : goal.invariant_of-self
invariant_of-self c =
    let long = length_permutation _ _ c.sort_unstable.ensures.permutation in
    record {
      near = All-permutation IsNear _ _ c.sort_unstable.ensures.permutation c.self.invariant.near;
      short = omega (arith, long, c.sort_unstable.ensures.capacity, c.self.invariant.short);
      small =
          omega (arith, c.sort_unstable.ensures.capacity, c.self.invariant.small);
    }

pub returns-clause-ascending : goal.returns-clause-ascending
returns-clause-ascending c = ascending_from_sort _ c.sort_unstable.ensures.sorted

pub returns-clause-near : goal.returns-clause-near
returns-clause-near c = All-permutation IsNear _ _ c.sort_unstable.ensures.permutation c.self.invariant.near
