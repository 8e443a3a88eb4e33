-- How ticks follow the true time, and what is slewed.
use Rattle.std.proofs.Common.{arith, subst, mul-le-mul_left, ◌≡◌, ℕ, ◌+◌, ◌-◌, ◌*◌, ◌≤◌, ℤ, pos, negsuc, nat_abs}
use Rattle.std.proofs.lemmas.Int.{ints}
use Rattle.tsp_base.specs.Words.{eased, tick_at, width}

-- nothing is slewed by 0
pub eased_none : (r : ℤ) → eased r 0 ≡ r
eased_none (pos r) = grind (arith, ints)
eased_none (negsuc r) = grind (arith, ints)

-- over x of true time a tick advances by x, give or take the width
pub tick_at_width : (r : ℤ) (p s x : ℕ) → nat_abs r ≤ p → p ≤ 1000 →
    (tick_at r (s + x) ≤ tick_at r s + x + width p x) × (tick_at r s + x ≤ tick_at r (s + x) + width p x)
tick_at_width (pos r) p s x small most =
    let m : x * r ≤ x * p = mul-le-mul_left x small in
    (omega arith, omega arith)
tick_at_width (negsuc r) p s x small most =
    let m : x * (r + 1) ≤ x * p = mul-le-mul_left x (omega arith) in
    let n : (s + x) * (r + 1) ≤ (s + x) * 1000 = mul-le-mul_left (s + x) (omega arith) in
    let o : s * (r + 1) ≤ s * 1000 = mul-le-mul_left s (omega arith) in
    (omega arith, omega arith)

-- the same from s to t by the largest drift, without a division: x and y are the ticks at s and t
pub record Near (s t x y : ℕ) : Type 0 where
  pub most : 1000 * y + 1001 * s ≤ 1000 * x + 1001 * t + 2000
  pub least : 1000 * x + 999 * t ≤ 1000 * y + 999 * s + 2000
  pub mono : x ≤ y

Near_from : (r : ℤ) (s x : ℕ) → nat_abs r ≤ 1000 → Near s (s + x) (tick_at r s) (tick_at r (s + x))
Near_from (pos r) s x k =
    let m : x * r ≤ x * 1000 = mul-le-mul_left x k in
    record { most = omega arith; least = omega arith; mono = omega arith }
Near_from (negsuc r) s x k =
    let m : x * (r + 1) ≤ x * 1000 = mul-le-mul_left x (omega arith) in
    let n : (s + x) * (r + 1) ≤ (s + x) * 1000 = mul-le-mul_left (s + x) (omega arith) in
    let o : s * (r + 1) ≤ s * 1000 = mul-le-mul_left s (omega arith) in
    record { most = omega arith; least = omega arith; mono = omega arith }

pub tick_at_near : (r : ℤ) (s t : ℕ) → nat_abs r ≤ 1000 → s ≤ t → Near s t (tick_at r s) (tick_at r t)
tick_at_near r s t k h =
    let e : s + (t - s) ≡ t = omega arith in
    subst (λ w. Near s w (tick_at r s) (tick_at r w)) e (Near_from r s (t - s) k)
