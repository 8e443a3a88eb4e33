-- Lemmas on the members of a value's group.
use Rattle.std.proofs.Common.{◌≡◌, ◌∙◌, refl, ap, sym, subst, ℕ, ◌+◌, ◌-◌, ◌<◌, ◌≤◌, Bool, true, false, ℤ, pos, ◌+ℤ◌, ◌-ℤ◌, ◌≤ℤ◌, ◌<ℤ◌, List, [], ◌∷◌, ◌++◌}
use Rattle.std.proofs.Common.{length, take, drop, get_or, arith, inl, inr, length-take, length-drop, append-nil}
use Rattle.std.{proofs.lemmas.Int.ints, proofs.lemmas.Int.fold-int_max_bounds, proofs.lemmas.Int.fold-int_max_reached, specs.Int.int_max}
use Rattle.std.proofs.lemmas.List.{take-append-drop, take-append-le, get_or-take, get_or-drop}
use Rattle.std.proofs.lemmas.List.Elements.{All-head, All-tail, All-from_get_or, All-contains, filter-append, Contains-get_or}
use Rattle.std.specs.List.{All, Contains, fold, filter}
use Rattle.tsp_group.specs.Groups.{is_member, members, total, group_from}
use Rattle.tsp_group.{proofs.Sums.total_append, specs.Values.IsAscending}

pub is_member_below : (span : ℕ) (lo x : ℤ) → x <ℤ lo → is_member span lo x ≡ false
is_member_below span lo x h = grind (arith, ints)

pub is_member_inside : (span : ℕ) (lo x : ℤ) → lo ≤ℤ x → x ≤ℤ (lo +ℤ pos span) → is_member span lo x ≡ true
is_member_inside span lo x h k = grind (arith, ints)

pub is_member_above : (span : ℕ) (lo x : ℤ) → (lo +ℤ pos span) <ℤ x → is_member span lo x ≡ false
is_member_above span lo x h = grind (arith, ints)

pub is_member_low : (span : ℕ) (lo x : ℤ) → is_member span lo x ≡ true → lo ≤ℤ x
is_member_low span lo x h = grind (arith, ints)

pub is_member_high : (span : ℕ) (lo x : ℤ) → is_member span lo x ≡ true → x ≤ℤ (lo +ℤ pos span)
is_member_high span lo x h = grind (arith, ints)

filter_all : (p : ℤ → Bool) (xs : List ℤ) → All (λ x. p x ≡ true) xs → filter p xs ≡ xs
filter_all p [] h = refl
filter_all p (x ∷ xs) h = rw (All-head (λ x. p x ≡ true) x xs h, filter_all p xs (All-tail (λ x. p x ≡ true) x xs h)) refl

filter_none : (p : ℤ → Bool) (xs : List ℤ) → All (λ x. p x ≡ false) xs → filter p xs ≡ []
filter_none p [] h = refl
filter_none p (x ∷ xs) h = rw (All-head (λ x. p x ≡ false) x xs h, filter_none p xs (All-tail (λ x. p x ≡ false) x xs h)) refl

take_of_take : (xs : List ℤ) (i j : ℕ) → i ≤ j → j ≤ length xs → take i (take j xs) ≡ take i xs
take_of_take xs i j h n =
    let k : i ≤ length (take j xs) = omega (arith, length-take j xs) in
    sym (ap (take i) (sym (take-append-drop j xs)) ∙ take-append-le i (take j xs) (drop j xs) k)

-- a test that passes from place i to before place j alone
filter_stretch : (p : ℤ → Bool) (xs : List ℤ) (i j : ℕ) → i ≤ j → j ≤ length xs
    → ((k : ℕ) → k < i → p (get_or xs k (pos 0)) ≡ false)
    → ((k : ℕ) → i ≤ k → k < j → p (get_or xs k (pos 0)) ≡ true)
    → ((k : ℕ) → j ≤ k → k < length xs → p (get_or xs k (pos 0)) ≡ false)
    → filter p xs ≡ drop i (take j xs)
filter_stretch p xs i j o n before inside after =
    let a : All (λ x. p x ≡ false) (take i (take j xs)) = All-from_get_or (λ x. p x ≡ false) (take i (take j xs)) (pos 0) (λ k h.
    let u : k < i = omega (arith, h, length-take i (take j xs)) in
    let v : k < j = omega arith in
    rw (get_or-take i (take j xs) k (pos 0) u, get_or-take j xs k (pos 0) v) (before k u)) in
    let b : All (λ x. p x ≡ true) (drop i (take j xs)) = All-from_get_or (λ x. p x ≡ true) (drop i (take j xs)) (pos 0) (λ k h.
    let v : i + k < j = omega (arith, h, length-drop i (take j xs), length-take j xs) in
    let u : i ≤ i + k = omega arith in
    rw (get_or-drop i (take j xs) k (pos 0), get_or-take j xs (i + k) (pos 0) v) (inside (i + k) u v)) in
    let c : All (λ x. p x ≡ false) (drop j xs) = All-from_get_or (λ x. p x ≡ false) (drop j xs) (pos 0) (λ k h.
    let v : j + k < length xs = omega (arith, h, length-drop j xs) in
    let u : j ≤ j + k = omega arith in
    rw (get_or-drop j xs k (pos 0)) (after (j + k) u v)) in
    ap (filter p) (sym (take-append-drop j xs)) ∙ filter-append p (take j xs) (drop j xs)
    ∙ ap (λ ys. ys ++ filter p (drop j xs)) (ap (filter p) (sym (take-append-drop i (take j xs))) ∙ filter-append p (take i (take j xs)) (drop i (take j xs)) ∙
    ap (λ ys. ys ++ filter p (drop i (take j xs))) (filter_none p (take i (take j xs)) a) ∙ filter_all p (drop i (take j xs)) b)
    ∙ ap (λ ys. drop i (take j xs) ++ ys) (filter_none p (drop j xs) c) ∙ append-nil (drop i (take j xs))

pub le_antisymm_ℤ : (x y : ℤ) → x ≤ℤ y → y ≤ℤ x → x ≡ y
le_antisymm_ℤ x y h k = omega (arith, ints)

-- the greatest member
pub greatest_is : (a m : ℤ) (ys : List ℤ) → a ≤ℤ m → All (λ x. x ≤ℤ m) ys → Contains ys m → fold int_max a ys ≡ m
greatest_is a m ys low all here =
    let r : ℤ = fold int_max a ys in
    let up : m ≤ℤ fold int_max a ys = All-contains (λ x. x ≤ℤ fold int_max a ys) ys m (fold-int_max_bounds a ys (fold int_max a ys) refl).1 here in
    let down : fold int_max a ys ≤ℤ m = elim (fold-int_max_reached a ys (fold int_max a ys) refl) [
      | inl e ↦ rw e low
      | inr k ↦
          All-contains (λ x. x ≤ℤ m) ys (fold int_max a ys) all k
    ] in
    le_antisymm_ℤ (fold int_max a ys) m down up

total_stretch : (xs : List ℤ) (i j : ℕ) → i ≤ j → j ≤ length xs → total (drop i (take j xs)) ≡ total (take j xs) -ℤ total (take i xs)
total_stretch xs i j o n =
    let e : total (take j xs) ≡ total (take i xs) +ℤ total (drop i (take j xs)) = ap total (sym (take-append-drop i (take j xs))) ∙
    total_append (take i (take j xs)) (drop i (take j xs)) ∙ ap (λ ys. total ys +ℤ total (drop i (take j xs))) (take_of_take xs i j o n) in
    omega (arith, ints, e)

members_stretch : (span : ℕ) (xs : List ℤ) (i j : ℕ) → IsAscending xs → i < j → j ≤ length xs
    → get_or xs (j - 1) (pos 0) ≤ℤ (get_or xs i (pos 0) +ℤ pos span)
    → (j < length xs → (get_or xs i (pos 0) +ℤ pos span) <ℤ get_or xs j (pos 0))
    → (0 < i → get_or xs (i - 1) (pos 0) <ℤ get_or xs i (pos 0))
    → members span xs (get_or xs i (pos 0)) ≡ drop i (take j xs)
members_stretch span xs i j up o n high beyond first =
    let lo : ℤ = get_or xs i (pos 0) in
    filter_stretch (is_member span (get_or xs i (pos 0))) xs i j (omega arith) n
    (λ k h.
    let a : get_or xs k (pos 0) ≤ℤ get_or xs (i - 1) (pos 0) = up k (i - 1) (omega arith) (omega arith) in
    let b = first (omega arith) in
    is_member_below span (get_or xs i (pos 0)) (get_or xs k (pos 0)) (omega (arith, ints, a, b)))
    (λ k u v.
    let a : get_or xs k (pos 0) ≤ℤ get_or xs (j - 1) (pos 0) = up k (j - 1) (omega arith) (omega arith) in
    is_member_inside span (get_or xs i (pos 0)) (get_or xs k (pos 0)) (up i k u (omega arith)) (omega (arith, ints, a, high)))
    (λ k u v.
    let a : get_or xs j (pos 0) ≤ℤ get_or xs k (pos 0) = up j k u v in
    let b = beyond (omega arith) in
    is_member_above span (get_or xs i (pos 0)) (get_or xs k (pos 0)) (omega (arith, ints, a, b)))

greatest_stretch : (xs : List ℤ) (i j : ℕ) → IsAscending xs → i < j → j ≤ length xs
    → fold int_max (get_or xs i (pos 0)) (drop i (take j xs)) ≡ get_or xs (j - 1) (pos 0)
greatest_stretch xs i j up o n =
    let m : ℤ = get_or xs (j - 1) (pos 0) in
    let all : All (λ x. x ≤ℤ get_or xs (j - 1) (pos 0)) (drop i (take j xs)) = All-from_get_or (λ x. x ≤ℤ get_or xs (j - 1) (pos 0)) (drop i (take j xs))
    (pos 0) (λ k h.
    let v : i + k < j = omega (arith, h, length-drop i (take j xs), length-take j xs) in
    rw (get_or-drop i (take j xs) k (pos 0), get_or-take j xs (i + k) (pos 0) v) (up (i + k) (j - 1) (omega arith) (omega arith))) in
    let at : i + (j - 1 - i) ≡ j - 1 = omega arith in
    let w : j - 1 < j = omega arith in
    let last : get_or (drop i (take j xs)) (j - 1 - i) (pos 0) ≡ get_or xs (j - 1) (pos 0) = get_or-drop i (take j xs) (j - 1 - i) (pos 0) ∙
    ap (λ k. get_or (take j xs) k (pos 0)) at ∙ get_or-take j xs (j - 1) (pos 0) w in
    let here : Contains (drop i (take j xs)) (get_or (drop i (take j xs)) (j - 1 - i) (pos 0)) =
    Contains-get_or (drop i (take j xs)) (j - 1 - i) (pos 0) (omega (arith, length-drop i (take j xs), length-take j xs)) in
    greatest_is (get_or xs i (pos 0)) (get_or xs (j - 1) (pos 0)) (drop i (take j xs)) (up i (j - 1) (omega arith) (omega arith)) all
    (subst (λ (x : ℤ). Contains (drop i (take j xs)) x) last here)

-- the group of the value at place i of an ascending list, whose members end before place j
pub group_from_stretch : (span : ℕ) (xs : List ℤ) (i j : ℕ) → IsAscending xs → i < j → j ≤ length xs
    → get_or xs (j - 1) (pos 0) ≤ℤ (get_or xs i (pos 0) +ℤ pos span)
    → (j < length xs → (get_or xs i (pos 0) +ℤ pos span) <ℤ get_or xs j (pos 0))
    → (0 < i → get_or xs (i - 1) (pos 0) <ℤ get_or xs i (pos 0))
    → group_from span xs (get_or xs i (pos 0)) ≡ record {
      lo = get_or xs i (pos 0);
      width = get_or xs (j - 1) (pos 0) -ℤ get_or xs i (pos 0);
      count = j - i;
      sum = total (take j xs) -ℤ total (take i xs);
    }
unfolding group_from
group_from_stretch span xs i j up o n high beyond first =
    let stretch : members span xs (get_or xs i (pos 0)) ≡ drop i (take j xs) = members_stretch span xs i j up o n high beyond first in
    let wide : fold int_max (get_or xs i (pos 0)) (drop i (take j xs)) ≡ get_or xs (j - 1) (pos 0) = greatest_stretch xs i j up o n in
    let many : length (drop i (take j xs)) ≡ j - i = omega (arith, length-drop i (take j xs), length-take j xs) in
    let sums = total_stretch xs i j (omega arith) n in
    rw (stretch, wide, many, sums) refl
