-- Laws of the sample of a daemon's clock.
use Rattle.std.proofs.Common.{◌≡◌, ℕ, ◌≤◌, ◌-◌, ◌/◌, zero, suc, refl, ap, ◌∙◌, ℤ, pos, ◌-ℤ◌, ◌+ℤ◌, arith}
use Rattle.std.proofs.lemmas.Int.{ints}
use Rattle.tsp_base.specs.Words.{half_down, half_up, sample_diff, sample_err}
use Rattle.tsp_query.specs.{Clocks.own_clock, declared.query.QueryEnd.TheVariants.Diff}

trip_is : (wall : ℤ) (first sent came : ℕ) → first ≤ sent → sent ≤ came → own_clock wall first came -ℤ own_clock wall first sent ≡ pos (came - sent)
trip_is wall first sent came h k = omega (arith, ints)

half_up_is : (n : ℕ) → half_up (pos n) ≡ pos (n - n / 2)
half_up_is zero = refl
half_up_is (suc n) = omega (arith, ints)

-- the difference by the ticks between
pub diff_is : (wall : ℤ) (reading : ℤ) (first sent came : ℕ) → first ≤ sent → sent ≤ came
    → sample_diff (own_clock wall first sent) reading (own_clock wall first came) ≡ (reading -ℤ (wall +ℤ pos (sent - first))) -ℤ pos ((came - sent) / 2)
diff_is wall reading first sent came h k = ap (λ t. (reading -ℤ own_clock wall first sent) -ℤ half_down t) (trip_is wall first sent came h k)

-- half of the round trip by the ticks between
pub err_is : (wall : ℤ) (first sent came : ℕ) → first ≤ sent → sent ≤ came → sample_err (own_clock wall first sent) (own_clock wall first came) ≡
    pos ((came - sent) - (came - sent) / 2)
err_is wall first sent came h k = ap (λ t. half_up t) (trip_is wall first sent came h k) ∙ half_up_is (came - sent)

-- what a query comes to by equal numbers
pub diff_end : (a a' b b' : ℤ) → a ≡ a' → b ≡ b' → Diff a b ≡ Diff a' b'
diff_end a a' b b' e f = rw (e, f) refl
