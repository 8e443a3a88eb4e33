-- A counter with a constant rate keeps the drift.
use Rattle.std.proofs.Common.{arith, mul-le-mul_left, ℕ, ◌+◌, ◌*◌, ◌≤◌, ℤ, pos, negsuc, nat_abs}
use Rattle.tsp_base.specs.Words.{tick_at}
use Rattle.tsp_promises.specs.Setting.{KeepsTime}

pub keeps_time : (r : ℤ) (p : ℕ) → nat_abs r ≤ p → p ≤ 1000 → KeepsTime p (tick_at r)
keeps_time (pos r) p small most = record {
  rises = λ s x. (let m : x * r ≤ x * p = mul-le-mul_left x small in omega arith);
  fast = λ s x. (let m : x * r ≤ x * p = mul-le-mul_left x small in omega arith);
  slow = λ s x. (let m : x * r ≤ x * p = mul-le-mul_left x small in omega arith);
}
keeps_time (negsuc r) p small most = record {
  rises = λ s x.
      (let m : x * (r + 1) ≤ x * 1000 = mul-le-mul_left x (omega arith) in
      let n : (s + x) * (r + 1) ≤ (s + x) * 1000 = mul-le-mul_left (s + x) (omega arith) in
      let o : s * (r + 1) ≤ s * 1000 = mul-le-mul_left s (omega arith) in omega arith);
  fast = λ s x.
      (let m : x * (r + 1) ≤ x * p = mul-le-mul_left x (omega arith) in
      let n : (s + x) * (r + 1) ≤ (s + x) * 1000 = mul-le-mul_left (s + x) (omega arith) in
      let o : s * (r + 1) ≤ s * 1000 = mul-le-mul_left s (omega arith) in omega arith);
  slow = λ s x.
      (let m : x * (r + 1) ≤ x * p = mul-le-mul_left x (omega arith) in
      let n : (s + x) * (r + 1) ≤ (s + x) * 1000 = mul-le-mul_left (s + x) (omega arith) in
      let o : s * (r + 1) ≤ s * 1000 = mul-le-mul_left s (omega arith) in omega arith);
}
