-- The mean of a group is no larger than the values.
use Rattle.std.proofs.Common.{◌≡◌, sym, subst, ℕ, ◌<◌, ◌≤ℤ◌, Bool, true, false, if◌then◌else◌, ℤ, pos, neg_ℤ, List, [], ◌∷◌, length, map, arith}
use Rattle.std.proofs.Common.{Option, None, Some, refl}
use Rattle.std.proofs.lemmas.{Int.ints, List.Elements.All-cons, List.Elements.All-filter, List.Elements.All-nil, List.Elements.All-weaker}
use Rattle.std.specs.List.{All, Contains}
use Rattle.tsp_rules.specs.Values.{PeerId}
use Rattle.tsp_rules.specs.RoundRows.{diff_before, estimates, is_near, near_diffs, standing}
use Rattle.tsp_group.specs.Groups.{group_from, group_of, is_member, mean_of, members, total}
use Rattle.tsp_group.proofs.{LargestGroup.group_from_count, LargestGroup.group_of_IsLargest, Means.floor_div_le, Means.le_floor_div, Sums.le_total}
use Rattle.tsp_group.proofs.{Sums.total_le}
use Rattle.tsp_base.specs.Words.{Estimate, Seen, estimate}

-- a value of at most this size
abbrev pub Small : ℕ → ℤ → Type 0
Small b x = (neg_ℤ (pos b) ≤ℤ x) × (x ≤ℤ pos b)

lows : (b : ℕ) (xs : List ℤ) → All (Small b) xs → All (λ x. neg_ℤ (pos b) ≤ℤ x) xs
lows b xs all = All-weaker (Small b) (λ x. neg_ℤ (pos b) ≤ℤ x) (λ x h. h.0) xs all

highs : (b : ℕ) (xs : List ℤ) → All (Small b) xs → All (λ x. x ≤ℤ pos b) xs
highs b xs all = All-weaker (Small b) (λ x. x ≤ℤ pos b) (λ x h. h.1) xs all

mean_from : (b span : ℕ) (xs : List ℤ) (lo : ℤ) → All (Small b) xs → Contains xs lo → Small b (mean_of (group_from span xs lo))
unfolding group_from
mean_from b span xs lo all c =
    let few = All-filter (is_member span lo) (Small b) xs all in
    let some : 0 < length (members span xs lo) = group_from_count span xs lo c in (
      le_floor_div (total (members span xs lo)) (neg_ℤ (pos b)) (length (members span xs lo)) some
          (le_total (neg_ℤ (pos b)) (members span xs lo) (lows b (members span xs lo) few)),
      floor_div_le (total (members span xs lo)) (pos b) (length (members span xs lo)) some
          (total_le (pos b) (members span xs lo) (highs b (members span xs lo) few)),
    )

pub mean_small : (b span : ℕ) (xs : List ℤ) → 0 < length xs → All (Small b) xs → Small b (mean_of (group_of span xs))
mean_small b span xs some all =
    let g = group_of_IsLargest span xs some in
    subst (λ k. Small b (mean_of k)) (sym g.whole) (mean_from b span xs (group_of span xs).lo all g.from)

-- the estimates of a round are such, if its offsets are
offsets : (b : ℕ) (seen : List Seen) (ps : List PeerId) → ((p : PeerId) (e : Estimate) → estimate p seen ≡ Some e → Small b e.diff) →
    All (Small b) (near_diffs (map (standing seen) ps))
offsets b seen [] small = All-nil (Small b)
offsets b seen (p ∷ ps) small = by_best (estimate p seen) refl (offsets b seen ps small) where
  by_best : (o : Option Estimate) → estimate p seen ≡ o → All (Small b) (near_diffs (map (standing seen) ps)) →
      All (Small b) (diff_before o (near_diffs (map (standing seen) ps)))
  by_best None e more = more
  by_best (Some x) e more = by_near (is_near x.diff) where
    by_near : (c : Bool) → All (Small b) (if c then x.diff ∷ near_diffs (map (standing seen) ps) else near_diffs (map (standing seen) ps))
    by_near true = All-cons (Small b) x.diff (near_diffs (map (standing seen) ps)) (small p x e) more
    by_near false = more

pub estimates_small : (b : ℕ) (seen : List Seen) (ps : List PeerId) → ((p : PeerId) (e : Estimate) → estimate p seen ≡ Some e → Small b e.diff) →
    All (Small b) (estimates (map (standing seen) ps))
estimates_small b seen ps small = All-cons (Small b) (pos 0) (near_diffs (map (standing seen) ps)) (omega (arith, ints), omega (arith, ints))
    (offsets b seen ps small)
