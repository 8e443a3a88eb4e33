-- Lemmas on ascending lists.
use Rattle.std.proofs.Common.{◌≡◌, ℤ, pos, ◌≤ℤ◌, List, false, arith}
use Rattle.std.proofs.lemmas.{Cmp.int_cmp_total, Int.ints, List.Sorted.sorted_far, List.Sorted.ranks_by}
use Rattle.std.specs.{List.Sorted.IsSorted, Ordering.int_cmp, Ordering.is_lt}
use Rattle.tsp_group.specs.Values.{IsAscending}

not_below : (x y : ℤ) → is_lt (int_cmp y x) ≡ false → x ≤ℤ y
not_below x y h = grind (arith, ints)

pub ascending_from_sort : (xs : List ℤ) → IsSorted int_cmp xs → IsAscending xs
ascending_from_sort xs up i j le lt = not_below _ _ (sorted_far (λ x y. is_lt (int_cmp x y)) (ranks_by int_cmp_total (λ (x : ℤ). x)) xs up i j (pos 0) le lt)
