-- Lemmas on lists that hold the same values, each as often.
use Rattle.std.proofs.Common.{◌≡◌, ◌∙◌, refl, ap, sym, ℕ, ◌+◌, Bool, true, false, cond, ℤ, pos, negsuc, ◌-ℤ◌, ◌≤ℤ◌, List, [], ◌∷◌, length, arith, inl, inr}
use Rattle.std.proofs.lemmas.{Int.ints, Int.fold-int_max_bounds, Int.fold-int_max_reached, List.Sums.sum_by-cons, List.Sums.length-filter}
use Rattle.std.proofs.lemmas.List.Elements.{All-nil, All-cons, All-head, All-tail, All-contains}
use Rattle.std.proofs.lemmas.List.Sorted.{IsPermutation-sym, sum_by-IsPermutation, All-permutation}
use Rattle.std.specs.List.{All, fold, filter, sum_by, count_by}
use Rattle.std.specs.{Int.int_max, List.Sorted.IsPermutation}
use Rattle.tsp_group.specs.Groups.{is_member, members, total, group_from}
use Rattle.tsp_group.proofs.{Members.le_antisymm_ℤ, Sums.total_cons}

-- how far a value is above 0, and how far below
abbrev above : ℤ → ℕ
above (pos n) = n
above (negsuc n) = 0

abbrev below : ℤ → ℕ
below (pos n) = 0
below (negsuc n) = n + 1

abbrev above_in : (ℤ → Bool) → ℤ → ℕ
above_in p x = cond (p x) (above x) 0

abbrev below_in : (ℤ → Bool) → ℤ → ℕ
below_in p x = cond (p x) (below x) 0

split_value : (x : ℤ) → x ≡ pos (above x) -ℤ pos (below x)
split_value (pos n) = omega (arith, ints)
split_value (negsuc n) = omega (arith, ints)

total_cond : (p : ℤ → Bool) (x : ℤ) (xs : List ℤ) (t : Bool) (a b : ℕ) → p x ≡ t → total (filter p xs) ≡ pos a -ℤ pos b →
    total (cond t (x ∷ filter p xs) (filter p xs)) ≡ pos (cond t (above x) 0 + a) -ℤ pos (cond t (below x) 0 + b)
total_cond p x xs true a b e h = let v = split_value x in omega (arith, ints, v, h, total_cons x (filter p xs))
total_cond p x xs false a b e h = omega (arith, ints, h)

-- the sum of the values that pass, as a difference of sums of natural numbers
total_split : (p : ℤ → Bool) (xs : List ℤ) → total (filter p xs) ≡ pos (sum_by (above_in p) xs) -ℤ pos (sum_by (below_in p) xs)
total_split p [] = refl
total_split p (x ∷ xs) = rw (sum_by-cons (above_in p) x xs, sum_by-cons (below_in p) x xs) (total_cond p x xs (p x) (sum_by (above_in p) xs)
    (sum_by (below_in p) xs) refl (total_split p xs))

total_permutation : (p : ℤ → Bool) (xs ys : List ℤ) → IsPermutation xs ys → total (filter p ys) ≡ total (filter p xs)
total_permutation p xs ys h =
    total_split p ys ∙ ap (λ n. pos n -ℤ pos (sum_by (below_in p) ys)) (sum_by-IsPermutation (above_in p) xs ys h)
    ∙ ap (λ n. pos (sum_by (above_in p) xs) -ℤ pos n) (sum_by-IsPermutation (below_in p) xs ys h) ∙ sym (total_split p xs)

pub count_permutation : (p : ℤ → Bool) (xs ys : List ℤ) → IsPermutation xs ys → count_by p ys ≡ count_by p xs
count_permutation p xs ys h = sum_by-IsPermutation (λ x. cond (p x) 1 0) xs ys h

-- what holds of the values that pass
abbrev pub Passing : (ℤ → Bool) → (ℤ → Type 0) → ℤ → Type 0
Passing p P x = p x ≡ true → P x

passing_cond : (p : ℤ → Bool) (P : ℤ → Type 0) (x : ℤ) (xs : List ℤ) (t : Bool) → p x ≡ t → All P (cond t (x ∷ filter p xs) (filter p xs)) → Passing p P x ×
    All P (filter p xs)
passing_cond p P x xs true e h = ((λ _. All-head P x (filter p xs) h), All-tail P x (filter p xs) h)
passing_cond p P x xs false e h = ((λ k. absurd (cc)), h)

pub passing_from_filter : (p : ℤ → Bool) (P : ℤ → Type 0) (xs : List ℤ) → All P (filter p xs) → All (Passing p P) xs
passing_from_filter p P [] h = All-nil (Passing p P)
passing_from_filter p P (x ∷ xs) h =
    let k = passing_cond p P x xs (p x) refl h in
    All-cons (Passing p P) x xs k.0 (passing_from_filter p P xs k.1)

filter_cond : (p : ℤ → Bool) (P : ℤ → Type 0) (x : ℤ) (xs : List ℤ) (t : Bool) → p x ≡ t → Passing p P x → All P (filter p xs) →
    All P (cond t (x ∷ filter p xs) (filter p xs))
filter_cond p P x xs true e h k = All-cons P x (filter p xs) (h e) k
filter_cond p P x xs false e h k = k

filter_from_passing : (p : ℤ → Bool) (P : ℤ → Type 0) (xs : List ℤ) → All (Passing p P) xs → All P (filter p xs)
filter_from_passing p P [] h = All-nil P
filter_from_passing p P (x ∷ xs) h = filter_cond p P x xs (p x) refl (All-head (Passing p P) x xs h)
    (filter_from_passing p P xs (All-tail (Passing p P) x xs h))

all_filter_permutation : (p : ℤ → Bool) (P : ℤ → Type 0) (xs ys : List ℤ) → IsPermutation xs ys → All P (filter p xs) → All P (filter p ys)
all_filter_permutation p P xs ys h k = filter_from_passing p P ys (All-permutation (Passing p P) xs ys h (passing_from_filter p P xs k))

greatest_le : (p : ℤ → Bool) (a : ℤ) (xs ys : List ℤ) → IsPermutation xs ys → fold int_max a (filter p ys) ≤ℤ fold int_max a (filter p xs)
greatest_le p a xs ys h =
    let bounds = fold-int_max_bounds a (filter p xs) (fold int_max a (filter p xs)) refl in
    let all = all_filter_permutation p (λ x. x ≤ℤ fold int_max a (filter p xs)) xs ys h bounds.1 in
    elim (fold-int_max_reached a (filter p ys) (fold int_max a (filter p ys)) refl) [
      | inl e ↦ rw e bounds.0
      | inr k ↦ All-contains (λ x. x ≤ℤ fold int_max a (filter p xs)) (filter p ys) (fold int_max a (filter p ys)) all k
    ]

greatest_permutation : (p : ℤ → Bool) (a : ℤ) (xs ys : List ℤ) → IsPermutation xs ys → fold int_max a (filter p ys) ≡ fold int_max a (filter p xs)
greatest_permutation p a xs ys h = le_antisymm_ℤ _ _ (greatest_le p a xs ys h) (greatest_le p a ys xs (IsPermutation-sym xs ys h))

-- a value's group is that of the list in any order
pub group_from_permutation : (span : ℕ) (xs ys : List ℤ) (lo : ℤ) → IsPermutation xs ys → group_from span ys lo ≡ group_from span xs lo
unfolding group_from
group_from_permutation span xs ys lo h =
    let p : ℤ → Bool = is_member span lo in
    let count : length (members span ys lo) ≡ length (members span xs lo) = length-filter (is_member span lo) ys ∙
    count_permutation (is_member span lo) xs ys h ∙ sym (length-filter (is_member span lo) xs) in
    let sum = total_permutation (is_member span lo) xs ys h in
    let wide = greatest_permutation (is_member span lo) lo xs ys h in
    rw (wide, count, sum) refl
