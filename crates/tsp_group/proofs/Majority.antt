-- Lemmas on the mean of the largest group, and on the values of a majority.
use Rattle.std.proofs.Common.{◌≡◌, ◌∙◌, refl, ap, sym, subst, ℕ, ◌+◌, ◌*◌, ◌<◌, ◌≤◌, ◌==◌, nat_lt, Bool, true, false, cond, ℤ, pos, negsuc, ◌+ℤ◌, ◌*ℤ◌, ◌≤ℤ◌}
use Rattle.std.proofs.Common.{List, [], ◌∷◌, length, get_or, arith, inl, inr, unsigned_abs}
use Rattle.std.proofs.lemmas.{Bool.Decides.nat_tests, Int.ints, Int.fold-int_min_bounds, Int.fold-int_min_reached}
use Rattle.std.proofs.lemmas.List.Elements.{All-head, All-tail, All-contains, All-filter, All-weaker, All-contains_itself, filter_passes, Contains-get_or}
use Rattle.std.proofs.lemmas.List.Elements.{Contains-append_right}
use Rattle.std.{proofs.lemmas.List.Sums.sum_by-cons, proofs.lemmas.List.Sums.length-filter, specs.Int.int_min}
use Rattle.std.specs.List.{All, Contains, fold, filter, count_by}
use Rattle.tsp_group.specs.Groups.{is_member, members, total, group_from, goes_before, IsLargest, HasMean, mean_of, IsWithin, Agree}
use Rattle.tsp_group.proofs.{Sums.le_total, Sums.total_le, Sums.near_total_low, Sums.near_total_high, LargestGroup.group_from_count}
use Rattle.tsp_group.{proofs.Members.is_member_inside, proofs.Members.is_member_low, proofs.Members.is_member_high, specs.Values.IsNear}
use Rattle.tsp_group.proofs.{Permutations.Passing, Permutations.passing_from_filter, Means.le_floor_div, Means.floor_div_le}
use Rattle.tsp_group.specs.{declared.group.Group.Group, Groups.FollowsMajority}

members_low : (span : ℕ) (xs : List ℤ) (lo : ℤ) → All (λ x. lo ≤ℤ x) (members span xs lo)
members_low span xs lo = All-weaker (λ x. is_member span lo x ≡ true) (λ x. lo ≤ℤ x) (is_member_low span lo) (members span xs lo)
    (filter_passes (is_member span lo) xs)

members_high : (span : ℕ) (xs : List ℤ) (lo : ℤ) → All (λ x. x ≤ℤ (lo +ℤ pos span)) (members span xs lo)
members_high span xs lo = All-weaker (λ x. is_member span lo x ≡ true) (λ x. x ≤ℤ (lo +ℤ pos span)) (is_member_high span lo) (members span xs lo)
    (filter_passes (is_member span lo) xs)

mean_low : (span : ℕ) (xs : List ℤ) (lo : ℤ) → Contains xs lo → lo ≤ℤ mean_of (group_from span xs lo)
unfolding group_from
mean_low span xs lo c = le_floor_div (total (members span xs lo)) lo (length (members span xs lo)) (group_from_count span xs lo c)
    (le_total lo (members span xs lo) (members_low span xs lo))

mean_high : (span : ℕ) (xs : List ℤ) (lo : ℤ) → Contains xs lo → mean_of (group_from span xs lo) ≤ℤ (lo +ℤ pos span)
unfolding group_from
mean_high span xs lo c = floor_div_le (total (members span xs lo)) (lo +ℤ pos span) (length (members span xs lo)) (group_from_count span xs lo c)
    (total_le (lo +ℤ pos span) (members span xs lo) (members_high span xs lo))

pub near_sum : (s : ℤ) (n : ℕ) → 0 < n → (negsuc 1073741823999998 *ℤ pos n) ≤ℤ s → s ≤ℤ (pos 1073741823999999 *ℤ pos n) → unsigned_abs s < n * 1073741824000000
near_sum (pos s) n some low high = omega (arith, ints)
near_sum (negsuc s) n some low high = omega (arith, ints)

near_group : (span : ℕ) (xs : List ℤ) (lo : ℤ) → All IsNear xs → Contains xs lo → HasMean (group_from span xs lo) × IsNear (mean_of (group_from span xs lo))
unfolding group_from
near_group span xs lo near c =
    let n : ℕ = length (members span xs lo) in
    let s : ℤ = total (members span xs lo) in
    let all = All-filter (is_member span lo) IsNear xs near in
    let some : 0 < length (members span xs lo) = group_from_count span xs lo c in
    let low = near_total_low (members span xs lo) all in
    let high = near_total_high (members span xs lo) all in (
      record { some = some; near = near_sum (total (members span xs lo)) (length (members span xs lo)) some low high },
      record {
        low = le_floor_div (total (members span xs lo)) (negsuc 1073741823999998) (length (members span xs lo)) some low;
        high = floor_div_le (total (members span xs lo)) (pos 1073741823999999) (length (members span xs lo)) some high;
      },
    )

-- the largest group of near values has a mean, which is near
pub IsLargest_near : (span : ℕ) (xs : List ℤ) (g : Group) → All IsNear xs → IsLargest span xs g → HasMean g × IsNear (mean_of g)
IsLargest_near span xs g near h = subst (λ (k : Group). HasMean k × IsNear (mean_of k)) (sym h.whole) (near_group span xs g.lo near h.from)

shared_cond : (p q : ℤ → Bool) (x : ℤ) (xs : List ℤ) (t u : Bool) → p x ≡ t → q x ≡ u
    → length (x ∷ xs) < (cond t 1 0 + count_by p xs) + (cond u 1 0 + count_by q xs)
    → (length xs < count_by p xs + count_by q xs → (y : ℤ) × Contains xs y × (p y ≡ true) × (q y ≡ true))
    → (y : ℤ) × Contains (x ∷ xs) y × (p y ≡ true) × (q y ≡ true)
shared_cond p q x xs true true e f h rest = (x, (0, omega arith, refl), e, f)
shared_cond p q x xs true false e f h rest = let w = rest (omega arith) in (w.0, Contains-append_right (x ∷ []) xs w.0 w.1, w.2, w.3)
shared_cond p q x xs false true e f h rest = let w = rest (omega arith) in (w.0, Contains-append_right (x ∷ []) xs w.0 w.1, w.2, w.3)
shared_cond p q x xs false false e f h rest = let w = rest (omega arith) in (w.0, Contains-append_right (x ∷ []) xs w.0 w.1, w.2, w.3)

-- two tests that pass more values than there are pass one together
shared : (p q : ℤ → Bool) (xs : List ℤ) → length xs < count_by p xs + count_by q xs → (y : ℤ) × Contains xs y × (p y ≡ true) × (q y ≡ true)
shared p q [] h = absurd (omega arith)
shared p q (x ∷ xs) h =
    let a = sum_by-cons (λ y. cond (p y) 1 0) x xs in
    let b = sum_by-cons (λ y. cond (q y) 1 0) x xs in
    shared_cond p q x xs (p x) (q x) refl refl (omega (arith, h, a, b)) (shared p q xs)

count_cond : (t u : Bool) (m n : ℕ) → (t ≡ true → u ≡ true) → m ≤ n → cond t 1 0 + m ≤ cond u 1 0 + n
count_cond true true m n h k = omega arith
count_cond true false m n h k = absurd (let e = h refl in cc)
count_cond false true m n h k = omega arith
count_cond false false m n h k = omega arith

count_le : (p q : ℤ → Bool) (xs : List ℤ) → All (Passing p (λ x. q x ≡ true)) xs → count_by p xs ≤ count_by q xs
count_le p q [] h = omega arith
count_le p q (x ∷ xs) h =
    let a = sum_by-cons (λ y. cond (p y) 1 0) x xs in
    let b = sum_by-cons (λ y. cond (q y) 1 0) x xs in
    let here = All-head (Passing p (λ x. q x ≡ true)) x xs h in
    let rest = count_le p q xs (All-tail (Passing p (λ x. q x ≡ true)) x xs h) in
    let both = count_cond (p x) (q x) (count_by p xs) (count_by q xs) here rest in
    omega (arith, a, b, both)

-- the least value that passes
least : (p : ℤ → Bool) (xs : List ℤ) → 0 < count_by p xs → (lo : ℤ) × Contains xs lo × (p lo ≡ true) × All (Passing p (λ x. lo ≤ℤ x)) xs
least p xs h =
    let some : 0 < length (filter p xs) = omega (arith, h, length-filter p xs) in
    let a : ℤ = get_or (filter p xs) 0 (pos 0) in
    let lo : ℤ = fold int_min (get_or (filter p xs) 0 (pos 0)) (filter p xs) in
    let bounds = fold-int_min_bounds (get_or (filter p xs) 0 (pos 0)) (filter p xs) (fold int_min (get_or (filter p xs) 0 (pos 0)) (filter p xs)) refl in
    let here : Contains (filter p xs) (fold int_min (get_or (filter p xs) 0 (pos 0)) (filter p xs)) =
    elim (fold-int_min_reached (get_or (filter p xs) 0 (pos 0)) (filter p xs) (fold int_min (get_or (filter p xs) 0 (pos 0)) (filter p xs)) refl) [
      | inl e ↦ rw e (Contains-get_or (filter p xs) 0 (pos 0) some)
      | inr k ↦ k
    ] in (
      fold int_min (get_or (filter p xs) 0 (pos 0)) (filter p xs),
      All-contains (Contains xs) (filter p xs) _ (All-filter p (Contains xs) xs (All-contains_itself xs)) here,
      All-contains (λ x. p x ≡ true) (filter p xs) _ (filter_passes p xs) here,
      passing_from_filter p (λ x. fold int_min (get_or (filter p xs) 0 (pos 0)) (filter p xs) ≤ℤ x) xs bounds.1,
    )

-- the values that agree are members of the group of the least of them
agreeing_members : (span : ℕ) (xs : List ℤ) (test : ℤ → Bool) (lo : ℤ) → Agree span xs test → Contains xs lo → test lo ≡ true →
    All (Passing test (λ x. lo ≤ℤ x)) xs → All (Passing test (λ x. is_member span lo x ≡ true)) xs
agreeing_members span xs test lo agree c t low k d h e =
    let w = agree (get_or xs k d) lo (Contains-get_or xs k d h) c e t in
    is_member_inside span lo (get_or xs k d) (low k d h e) w.low

count_not_before : (a b : ℕ) (p : Bool) → cond (a == b) p (nat_lt b a) ≡ false → a ≤ b
count_not_before a b p h = grind (arith, nat_tests)

goes_before_count : (g h : Group) → goes_before g h ≡ false → g.count ≤ h.count
unfolding goes_before
goes_before_count g h e = count_not_before g.count h.count _ e

count_of_group : (span : ℕ) (xs : List ℤ) (lo : ℤ) → (group_from span xs lo).count ≡ count_by (is_member span lo) xs
unfolding group_from
count_of_group span xs lo = length-filter (is_member span lo) xs

-- a mean in the span of lo, and two values of which one lies there too
near_both : (span : ℕ) (lo mean x y : ℤ) → lo ≤ℤ mean → mean ≤ℤ (lo +ℤ pos span) → lo ≤ℤ y → y ≤ℤ (lo +ℤ pos span) → IsWithin span x y →
    IsWithin (2 * span) mean x
near_both span lo mean x y a b c d w = let l = w.low in let h = w.high in record { low = omega (arith, ints); high = omega (arith, ints) }

pub IsLargest_majority : (span : ℕ) (xs : List ℤ) (g : Group) → IsLargest span xs g → FollowsMajority span xs (mean_of g)
IsLargest_majority span xs g largest test most agree x c t =
    let w = least test xs (omega arith) in
    let inside : All (Passing test (λ y. is_member span w.0 y ≡ true)) xs = agreeing_members span xs test w.0 agree w.1 w.2 w.3 in
    let fewer = count_le test (is_member span w.0) xs inside in
    let a = count_of_group span xs w.0 in
    let b = goes_before_count (group_from span xs w.0) g (largest.first w.0 w.1) in
    let d : g.count ≡ count_by (is_member span g.lo) xs = ap (λ (k : Group). k.count) largest.whole ∙ count_of_group span xs g.lo in
    let s = shared test (is_member span g.lo) xs (omega (arith, most, fewer, a, b, d)) in
    let low : g.lo ≤ℤ mean_of g = subst (λ (k : Group). g.lo ≤ℤ mean_of k) (sym largest.whole) (mean_low span xs g.lo largest.from) in
    let high : mean_of g ≤ℤ (g.lo +ℤ pos span) = subst (λ (k : Group). mean_of k ≤ℤ (g.lo +ℤ pos span)) (sym largest.whole)
    (mean_high span xs g.lo largest.from) in
    near_both span g.lo (mean_of g) x s.0 low high (is_member_low span g.lo s.0 s.3) (is_member_high span g.lo s.0 s.3) (agree x s.0 c s.1 t s.2)
