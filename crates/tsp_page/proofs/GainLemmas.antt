-- The rate's part of a time, reckoned in two pieces.
use Rattle.std.proofs.Common.{◌≡◌, ℕ, ◌+◌, ◌*◌, ◌≤◌, ℤ, pos, negsuc, ◌+ℤ◌, ◌*ℤ◌, nat_abs, arith, ap, sym, mul-le-mul_left}
use Rattle.std.proofs.lemmas.Int.{ints, unsigned_abs-mul}
use Rattle.std.specs.Int.{int_div_euclid, int_rem_euclid}
use borrow.Author.Differences.{up, down}
use Rattle.tsp_page.specs.Formula.{gained}

-- the quotient and what it leaves
whole_part : (e : ℤ) → (int_div_euclid e (pos 1000000000) *ℤ pos 1000000000) +ℤ int_rem_euclid e (pos 1000000000) ≡ e
whole_part (pos a) = omega (arith, ints)
whole_part (negsuc a) = omega (arith, ints)

-- a quotient of whole multiples and a rest
div_shift : (k m s : ℤ) → s ≡ (k *ℤ pos 1000000000) +ℤ m → int_div_euclid s (pos 1000000000) ≡ k +ℤ int_div_euclid m (pos 1000000000)
div_shift k (pos a) (pos b) e = omega (arith, ints, e)
div_shift k (pos a) (negsuc b) e = omega (arith, ints, e)
div_shift k (negsuc a) (pos b) e = omega (arith, ints, e)
div_shift k (negsuc a) (negsuc b) e = omega (arith, ints, e)

-- a sum times a number
product : (s w p r : ℤ) → s ≡ (w *ℤ pos 1000000000) +ℤ p → s *ℤ r ≡ ((w *ℤ r) *ℤ pos 1000000000) +ℤ (p *ℤ r)
product s w p r e =
    let u : up s + down w * 1000000000 + down p ≡ down s + up w * 1000000000 + up p = omega (arith, ints, e) in
    let a : (up s + down w * 1000000000 + down p) * up r ≡ (down s + up w * 1000000000 + up p) * up r = ap (λ z. z * up r) u in
    let b : (up s + down w * 1000000000 + down p) * down r ≡ (down s + up w * 1000000000 + up p) * down r = ap (λ z. z * down r) u in
    omega (arith, ints, a, b)

-- the rate's part of a time is that of its whole billions and that of what they leave
pub gained_parts : (rate e w p : ℤ) → w ≡ int_div_euclid e (pos 1000000000) → p ≡ int_rem_euclid e (pos 1000000000)
    → gained rate e ≡ (w *ℤ rate) +ℤ int_div_euclid (p *ℤ rate) (pos 1000000000)
gained_parts rate e w p ew ep =
    let s : e ≡ (w *ℤ pos 1000000000) +ℤ p = rw (ew, ep) (sym (whole_part e)) in
    div_shift (w *ℤ rate) (p *ℤ rate) (e *ℤ rate) (product e w p rate s)

-- it is no greater than a thousandth of the time, rounded up, where the rate is at most a thousandth
gained_small_pos : (m n : ℕ) → m ≤ 1000000 → n ≤ 4611686018427388 → m * n ≤ 4611686018427388000000
gained_small_pos m n hm hn = let a : m * n ≤ m * 4611686018427388 = mul-le-mul_left m hn in omega (arith, a, hm)

quotient_small : (z : ℤ) → nat_abs z ≤ 4611686018427388000000 → nat_abs (int_div_euclid z (pos 1000000000)) ≤ 4611686018428
quotient_small (pos a) h = omega (arith, h)
quotient_small (negsuc a) h = omega (arith, h)

pub gained_small : (rate e : ℤ) → nat_abs rate ≤ 1000000 → nat_abs e ≤ 4611686018427388 → nat_abs (gained rate e) ≤ 4611686018428
gained_small rate e hr he =
    let a : nat_abs (e *ℤ rate) ≡ nat_abs e * nat_abs rate = unsigned_abs-mul e rate in
    let b : nat_abs rate * nat_abs e ≤ 4611686018427388000000 = gained_small_pos (nat_abs rate) (nat_abs e) hr he in
    quotient_small (e *ℤ rate) (omega (arith, a, b))

-- a product of at most 10^9 and a rate
times_small : (m n : ℕ) → m ≤ 1000000000 → n ≤ 1000000 → m * n ≤ 1000000000000000
times_small m n hm hn = let a : m * n ≤ m * 1000000 = mul-le-mul_left m hn in omega (arith, a, hm)

pub abs_times_small : (x y : ℤ) → nat_abs x ≤ 1000000000 → nat_abs y ≤ 1000000 → nat_abs (x *ℤ y) ≤ 1000000000000000
abs_times_small x y hx hy =
    let a : nat_abs (x *ℤ y) ≡ nat_abs x * nat_abs y = unsigned_abs-mul x y in
    let b : nat_abs x * nat_abs y ≤ 1000000000000000 = times_small (nat_abs x) (nat_abs y) hx hy in
    omega (arith, a, b)
