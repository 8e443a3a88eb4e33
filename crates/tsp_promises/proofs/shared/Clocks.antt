-- The law of ticks for the nodes of a setting.
use Rattle.std.proofs.Common.{arith, subst, mul-le-mul_left, ◌≡◌, ℕ, ◌+◌, ◌-◌, ◌*◌, ◌/◌, ◌≤◌}
use Rattle.tsp_promises.specs.Setting.{Setting}
use Rattle.tsp_base.specs.Words.{width}
use Rattle.tsp_base.proofs.TickLemmas.{Near}

near_by : (p s x a b : ℕ) → p ≤ 1000 → a ≤ b → b ≤ a + x + (p * x + 999999) / 1000000 → a + x ≤ b + (p * x + 999999) / 1000000 → Near s (s + x) a b
near_by p s x a b small rises fast slow =
    let m : x * p ≤ x * 1000 = mul-le-mul_left x small in
    record { most = omega (arith, fast); least = omega (arith, slow); mono = rises }

-- ticks of one node, at two times
pub near : (setting : Setting) (n s t : ℕ) → s ≤ t → Near s t (setting.tick n s) (setting.tick n t)
near setting n s t h =
    let k = setting.ticks n in
    let e : s + (t - s) ≡ t = omega arith in
    subst (λ w. Near s w (setting.tick n s) (setting.tick n w)) e
    (near_by setting.drift s (t - s) (setting.tick n s) (setting.tick n (s + (t - s))) setting.small (k.rises s (t - s)) (k.fast s (t - s)) (k.slow s (t - s)))

pub tick_mono : (setting : Setting) (n s t : ℕ) → s ≤ t → setting.tick n s ≤ setting.tick n t
tick_mono setting n s t h = let m = near setting n s t h in m.mono

-- the ticks between two true times
pub ticks_over : (setting : Setting) (n a b : ℕ) → a ≤ b → (setting.tick n b ≤ setting.tick n a + (b - a) + width setting.drift (b - a)) ×
    (setting.tick n a + (b - a) ≤ setting.tick n b + width setting.drift (b - a))
ticks_over setting n a b o =
    let k = setting.ticks n in
    let e : a + (b - a) ≡ b = omega arith in
    let f = k.fast a (b - a) in
    let g = k.slow a (b - a) in
    subst (λ w. (setting.tick n w ≤ setting.tick n a + (b - a) + width setting.drift (b - a)) ×
    (setting.tick n a + (b - a) ≤ setting.tick n w + width setting.drift (b - a))) e
    (omega (arith, f), omega (arith, g))

-- what one clock gains on another
pub drift_apart : (setting : Setting) (n m s t : ℕ) → s ≤ t →
    (setting.tick n t + setting.tick m s ≤ setting.tick n s + setting.tick m t + 2 * width setting.drift (t - s)) ×
    (setting.tick n s + setting.tick m t ≤ setting.tick n t + setting.tick m s + 2 * width setting.drift (t - s))
drift_apart setting n m s t h =
    let one = ticks_over setting n s t h in
    let two = ticks_over setting m s t h in
    (omega (arith, one.0, one.1, two.0, two.1), omega (arith, one.0, one.1, two.0, two.1))
