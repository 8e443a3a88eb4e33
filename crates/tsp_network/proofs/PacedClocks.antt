-- A counter whose rate changes as often as one likes, within the drift, keeps the drift.
use Rattle.std.proofs.Common.{sym, ap, subst, inl, inr, arith, le-leb, mul-le-mul_left, ◌∙◌, ◌≡◌, ◌⊎◌, ℕ, ◌+◌, ◌-◌, ◌*◌, ◌<◌, ◌≤◌, if◌then◌else◌, List, [], ◌∷◌}
use Rattle.std.proofs.lemmas.Bool.{cases_lt, lt-leb}
use Rattle.tsp_network.specs.ClocksUse.{AnyPacesKeepTime, ArePaces, IsPace, Stretch, paced}

-- from a to b a counter has come as far as it may in so many microseconds
record Near (drift a b x : ℕ) : Type 0 where
  pub fast : b ≤ a + 1000000 * x + drift * x
  pub slow : a + 1000000 * x ≤ b + drift * x

at_pace : (drift speed t x : ℕ) → IsPace drift speed → Near drift (speed * t) (speed * (t + x)) x
at_pace drift speed t x p =
    let fast : x * speed ≤ x * (1000000 + drift) = mul-le-mul_left x p.fast in
    let slow : x * 1000000 ≤ x * (speed + drift) = mul-le-mul_left x p.slow in
    record { fast = omega (arith, fast); slow = omega (arith, slow) }

-- one way after another
then_near : (drift a b c x y : ℕ) → Near drift a b x → Near drift b c y → Near drift a c (x + y)
then_near drift a b c x y first next =
    let f = first.fast in let s = first.slow in let g = next.fast in let r = next.slow in
    record { fast = omega (arith, f, g); slow = omega (arith, s, r) }

shift_near : (drift a b c x : ℕ) → Near drift a b x → Near drift (c + a) (c + b) x
shift_near drift a b c x n = let f = n.fast in let s = n.slow in record { fast = omega (arith, f); slow = omega (arith, s) }

within : (s : Stretch) (rest : List Stretch) (last t : ℕ) → t ≤ s.long → paced (s ∷ rest) last t ≡ s.speed * t
within s rest last t few = ap (λ b. if b then s.speed * t else s.speed * s.long + paced rest last (t - s.long)) (le-leb t s.long few)

past : (s : Stretch) (rest : List Stretch) (last t : ℕ) → s.long < t → paced (s ∷ rest) last t ≡ s.speed * s.long + paced rest last (t - s.long)
past s rest last t many = ap (λ b. if b then s.speed * t else s.speed * s.long + paced rest last (t - s.long)) (lt-leb t s.long many)

from_zero : (stretches : List Stretch) (last : ℕ) → paced stretches last 0 ≡ 0
from_zero [] last = omega arith
from_zero (s ∷ rest) last = within s rest last 0 (omega arith) ∙ omega arith

near : (drift : ℕ) (stretches : List Stretch) (last : ℕ) → ArePaces drift stretches → IsPace drift last → (t x : ℕ) →
    Near drift (paced stretches last t) (paced stretches last (t + x)) x
near drift [] last are is t x = at_pace drift last t x is
near drift (s ∷ rest) last are is t x = by_start (cases_lt s.long t) (near drift rest last are.1 is) where
  by_start : (s.long < t) ⊎ (t ≤ s.long) → ((u y : ℕ) → Near drift (paced rest last u) (paced rest last (u + y)) y) →
      Near drift (paced (s ∷ rest) last t) (paced (s ∷ rest) last (t + x)) x
  by_start (inl many) more =
      subst (λ k. Near drift k (paced (s ∷ rest) last (t + x)) x) (sym (past s rest last t many))
      (subst (λ k. Near drift (s.speed * s.long + paced rest last (t - s.long)) k x) (sym (past s rest last (t + x) (omega (arith, many))))
      (shift_near drift (paced rest last (t - s.long)) (paced rest last ((t + x) - s.long)) (s.speed * s.long) x
      (subst (λ k. Near drift (paced rest last (t - s.long)) (paced rest last k) x)
      (let e : (t - s.long) + x ≡ (t + x) - s.long = omega (arith, many) in e) (more (t - s.long) x))))
  by_start (inr few) more = subst (λ k. Near drift k (paced (s ∷ rest) last (t + x)) x) (sym (within s rest last t few))
      (by_end (cases_lt s.long (t + x))) where
        by_end : (s.long < t + x) ⊎ (t + x ≤ s.long) → Near drift (s.speed * t) (paced (s ∷ rest) last (t + x)) x
        by_end (inr few) = subst (λ k. Near drift (s.speed * t) k x) (sym (within s rest last (t + x) few)) (at_pace drift s.speed t x are.0)
        by_end (inl many) =
            let y : ℕ = s.long - t in
            let z : ℕ = (t + x) - s.long in
            let whole : y + z ≡ x = omega (arith, few, many) in
            let first : Near drift (s.speed * t) (s.speed * s.long) y =
            subst (λ k. Near drift (s.speed * t) (s.speed * k) y) (let e : t + y ≡ s.long = omega (arith, few) in e) (at_pace drift s.speed t y are.0) in
            let next : Near drift (s.speed * s.long) (s.speed * s.long + paced rest last z) z =
            subst (λ k. Near drift k (s.speed * s.long + paced rest last z) z) (let e : s.speed * s.long + 0 ≡ s.speed * s.long = omega arith in e)
            (shift_near drift 0 (paced rest last z) (s.speed * s.long) z (subst (λ k. Near drift k (paced rest last z) z) (from_zero rest last)
            (subst (λ k. Near drift (paced rest last 0) (paced rest last k) z) (let e : 0 + z ≡ z = omega arith in e) (more 0 z)))) in
            subst (λ k. Near drift (s.speed * t) k x) (sym (past s rest last (t + x) many))
            (subst (λ k. Near drift (s.speed * t) (s.speed * s.long + paced rest last z) k) whole
            (then_near drift (s.speed * t) (s.speed * s.long) (s.speed * s.long + paced rest last z) y z first next))

pub any_paces_keep_time : AnyPacesKeepTime
any_paces_keep_time drift stretches last small are is = record {
  rises = λ t x. (let n = near drift stretches last are is t x in let s = n.slow in let m : x * drift ≤ x * 1000000 = mul-le-mul_left x small in
      omega (arith, s, m));
  fast = λ t x. (let n = near drift stretches last are is t x in let f = n.fast in omega (arith, f));
  slow = λ t x. (let n = near drift stretches last are is t x in let s = n.slow in omega (arith, s));
}
