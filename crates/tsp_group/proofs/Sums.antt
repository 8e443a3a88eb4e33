-- Lemmas on sums of values.
use Rattle.std.proofs.Common.{◌≡◌, ◌∙◌, ℕ, suc, ◌+◌, ◌<◌, ◌≤◌, ◌^◌, ℤ, pos, negsuc, ◌+ℤ◌, ◌-ℤ◌, ◌*ℤ◌, ◌≤ℤ◌, List, [], ◌∷◌, ◌++◌, length, take, get_or}
use Rattle.std.proofs.Common.{length-take, arith}
use Rattle.std.proofs.lemmas.{Int.ints, List.Sums.fold_more, List.Sums.fold-append}
use Rattle.std.proofs.lemmas.List.Elements.{All-head, All-tail, All-take, All-weaker}
use Rattle.std.specs.List.{All, fold}
use Rattle.tsp_group.specs.{Groups.total, Values.IsNear, Windows.IsSmallSum}

pub total_more : (xs : List ℤ) (i : ℕ) → i < length xs → total (take (i + 1) xs) ≡ total (take i xs) +ℤ get_or xs i (pos 0)
total_more xs i h = fold_more ◌+ℤ◌ (pos 0) xs i (pos 0) h

-- the sum from a start is the start and the sum
pub total_from : (a : ℤ) (xs : List ℤ) → fold ◌+ℤ◌ a xs ≡ a +ℤ total xs
total_from a [] = omega (arith, ints)
total_from a (x ∷ xs) =
    let p = total_from (a +ℤ x) xs in
    let q = total_from (pos 0 +ℤ x) xs in
    omega (arith, ints, p, q)

pub total_append : (xs ys : List ℤ) → total (xs ++ ys) ≡ total xs +ℤ total ys
total_append xs ys = fold-append ◌+ℤ◌ (pos 0) xs ys ∙ total_from (total xs) ys

pub total_cons : (x : ℤ) (xs : List ℤ) → total (x ∷ xs) ≡ x +ℤ total xs
total_cons x xs = let p = total_from (pos 0 +ℤ x) xs in omega (arith, ints, p)

mul_zero : (b : ℤ) → b *ℤ pos 0 ≡ pos 0
mul_zero (pos b) = omega (arith, ints)
mul_zero (negsuc b) = omega (arith, ints)

mul_suc : (b : ℤ) (n : ℕ) → b *ℤ pos (suc n) ≡ (b *ℤ pos n) +ℤ b
mul_suc (pos b) n = omega (arith, ints)
mul_suc (negsuc b) n = omega (arith, ints)

-- at most b for each value
pub total_le : (b : ℤ) (xs : List ℤ) → All (λ x. x ≤ℤ b) xs → total xs ≤ℤ (b *ℤ pos (length xs))
total_le b [] h = let e = mul_zero b in omega (arith, ints, e)
total_le b (x ∷ xs) h =
    let here : x ≤ℤ b = All-head (λ x. x ≤ℤ b) x xs h in
    let rest = total_le b xs (All-tail (λ x. x ≤ℤ b) x xs h) in
    omega (arith, ints, here, rest, total_cons x xs, mul_suc b (length xs))

-- at least a for each value
pub le_total : (a : ℤ) (xs : List ℤ) → All (λ x. a ≤ℤ x) xs → (a *ℤ pos (length xs)) ≤ℤ total xs
le_total a [] h = let e = mul_zero a in omega (arith, ints, e)
le_total a (x ∷ xs) h =
    let here : a ≤ℤ x = All-head (λ x. a ≤ℤ x) x xs h in
    let rest = le_total a xs (All-tail (λ x. a ≤ℤ x) x xs h) in
    omega (arith, ints, here, rest, total_cons x xs, mul_suc a (length xs))

pub near_total_low : (xs : List ℤ) → All IsNear xs → (negsuc 1073741823999998 *ℤ pos (length xs)) ≤ℤ total xs
near_total_low xs near = le_total (negsuc 1073741823999998) xs (All-weaker IsNear (λ x. negsuc 1073741823999998 ≤ℤ x) (λ x h. h.low) xs near)

pub near_total_high : (xs : List ℤ) → All IsNear xs → total xs ≤ℤ (pos 1073741823999999 *ℤ pos (length xs))
near_total_high xs near = total_le (pos 1073741823999999) xs (All-weaker IsNear (λ x. x ≤ℤ pos 1073741823999999) (λ x h. h.high) xs near)

pub small_total : (xs : List ℤ) (i j : ℕ) → All IsNear xs → length xs < 2 ^ 32 → IsSmallSum (total (take j xs) -ℤ total (take i xs))
small_total xs i j near small =
    let n : length (take i xs) ≤ length xs = omega (arith, length-take {A = ℤ}) in
    let m : length (take j xs) ≤ length xs = omega (arith, length-take {A = ℤ}) in
    let a = near_total_low (take i xs) (All-take IsNear i xs near) in
    let b = near_total_high (take i xs) (All-take IsNear i xs near) in
    let c = near_total_low (take j xs) (All-take IsNear j xs near) in
    let d = near_total_high (take j xs) (All-take IsNear j xs near) in
    record { low = omega (arith, ints, a, b, c, d); high = omega (arith, ints, a, b, c, d) }
