-- Lemmas on the largest group.
use Rattle.std.proofs.Common.{◌≡◌, ◌∙◌, refl, ap, sym, subst, ℕ, ◌<◌, ◌==◌, nat_lt, Bool, true, false, cond, ℤ, pos, List, length, get_or, arith, inl, inr, ◌⊎◌}
use Rattle.std.proofs.lemmas.{Bool.Decides.nat_tests, Int.ints, List.Elements.All-contains, List.Elements.Contains-get_or}
use Rattle.std.proofs.lemmas.List.Sorted.{IsPermutation-sym, Contains-permutation}
use Rattle.std.specs.List.{All, Contains, filter, Sorted.IsPermutation}
use Rattle.tsp_group.specs.Groups.{is_member, group_from, goes_before, no_group, group_of, IsLargest}
use Rattle.tsp_group.specs.declared.group.Group.{Group}
use Rattle.tsp_group.proofs.{Members.is_member_inside, Precedence.goes_before_tie, Trials.best_of_first, Trials.best_of_cases}
use Rattle.tsp_group.proofs.Permutations.{Passing, passing_from_filter, group_from_permutation}

some_pass : (p : ℤ → Bool) (xs : List ℤ) (x : ℤ) → Contains xs x → p x ≡ true → 0 < length (filter p xs)
some_pass p xs x c e = All-contains (Passing p (λ _. 0 < length (filter p xs))) xs x (passing_from_filter p (λ _. 0 < length (filter p xs)) xs
    (λ k d h. omega arith)) c e

member_of_own : (span : ℕ) (lo : ℤ) → is_member span lo lo ≡ true
member_of_own span lo = is_member_inside span lo lo (omega (arith, ints)) (omega (arith, ints))

-- the group of a value of the list has a member
pub group_from_count : (span : ℕ) (xs : List ℤ) (lo : ℤ) → Contains xs lo → 0 < (group_from span xs lo).count
unfolding group_from
group_from_count span xs lo c = some_pass (is_member span lo) xs lo c (member_of_own span lo)

pub group_from_lo : (span : ℕ) (xs : List ℤ) (lo : ℤ) → (group_from span xs lo).lo ≡ lo
unfolding group_from
group_from_lo span xs lo = refl

count_before_none : (n : ℕ) (p : Bool) → 0 < n → cond (n == 0) p (nat_lt 0 n) ≡ true
count_before_none n p h = grind (arith, nat_tests)

goes_before_no_group : (g : Group) → 0 < g.count → goes_before g no_group ≡ true
unfolding goes_before
goes_before_no_group g h = count_before_none g.count _ h

largest_cases : (span : ℕ) (xs : List ℤ) (r : Group) → 0 < length xs → All (λ lo. goes_before (group_from span xs lo) r ≡ false) xs
    → (r ≡ no_group) ⊎ ((lo : ℤ) × Contains xs lo × (r ≡ group_from span xs lo)) → IsLargest span xs r
largest_cases span xs r some first (inl e) =
    let x : ℤ = get_or xs 0 (pos 0) in
    let c : Contains xs (get_or xs 0 (pos 0)) = Contains-get_or xs 0 (pos 0) some in
    let a : goes_before (group_from span xs (get_or xs 0 (pos 0))) r ≡ false = All-contains (λ lo. goes_before (group_from span xs lo) r ≡
    false) xs (get_or xs 0 (pos 0)) first c in
    let b : goes_before (group_from span xs (get_or xs 0 (pos 0))) no_group ≡ true =
    goes_before_no_group (group_from span xs (get_or xs 0 (pos 0))) (group_from_count span xs (get_or xs 0 (pos 0)) c) in
    absurd (cc)
largest_cases span xs r some first (inr w) =
    let lo : r.lo ≡ w.0 = ap (λ (g : Group). g.lo) w.2 ∙ group_from_lo span xs w.0 in
    record {
      from = rw lo w.1;
      whole = w.2 ∙ ap (group_from span xs) (sym lo);
      first = λ x c. All-contains (λ lo. goes_before (group_from span xs lo) r ≡ false) xs x first c;
    }

pub group_of_IsLargest : (span : ℕ) (xs : List ℤ) → 0 < length xs → IsLargest span xs (group_of span xs)
group_of_IsLargest span xs some = largest_cases span xs (group_of span xs) some (best_of_first (group_from span xs) xs no_group (group_of span xs) refl)
    (best_of_cases (group_from span xs) xs no_group (group_of span xs) refl)

not_before : (span : ℕ) (xs : List ℤ) (g h : Group) → IsLargest span xs g → IsLargest span xs h → goes_before g h ≡ false
not_before span xs g h p q = subst (λ (k : Group). goes_before k h ≡ false) (sym p.whole) (q.first g.lo p.from)

pub IsLargest_unique : (span : ℕ) (xs : List ℤ) (g h : Group) → IsLargest span xs g → IsLargest span xs h → g ≡ h
IsLargest_unique span xs g h p q = p.whole ∙ ap (group_from span xs) (goes_before_tie g h (not_before span xs g h p q) (not_before span xs h g q p)) ∙
    sym q.whole

IsLargest_permutation : (span : ℕ) (xs ys : List ℤ) (g : Group) → IsPermutation xs ys → IsLargest span xs g → IsLargest span ys g
IsLargest_permutation span xs ys g h p = record {
  from = Contains-permutation xs ys g.lo h p.from;
  whole = p.whole ∙ sym (group_from_permutation span xs ys g.lo h);
  first = λ lo c. subst (λ (k : Group). goes_before k g ≡ false) (sym (group_from_permutation span xs ys lo h))
      (p.first lo (Contains-permutation ys xs lo (IsPermutation-sym xs ys h) c));
}

-- the largest group is that of the list in any order
pub group_of_permutation : (span : ℕ) (xs ys : List ℤ) → IsPermutation xs ys → 0 < length xs → 0 < length ys → group_of span ys ≡ group_of span xs
group_of_permutation span xs ys h some more = IsLargest_unique span ys (group_of span ys) (group_of span xs) (group_of_IsLargest span ys more)
    (IsLargest_permutation span xs ys (group_of span xs) h (group_of_IsLargest span xs some))
