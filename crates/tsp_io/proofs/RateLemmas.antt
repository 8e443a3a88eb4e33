-- Ticks by whole quotients and what is left of them.
use Rattle.std.proofs.Common.{◌≡◌, ℕ, ◌+◌, ◌*◌, ◌/◌, ◌%◌, ◌∙◌, ap, sym, arith}
use Rattle.std.proofs.Math.Nat.{mul-add-div_right, mul-div_cancel}
use Rattle.std.proofs.lemmas.Nat.{div-add-mod'}

parts-of : (q r s : ℕ) → q * s * 1000000000 + r * s ≡ (q * 1000000000 + r) * s
parts-of q r s = omega arith

-- as far as the whole product says
pub by_parts : (elapsed speed : ℕ) →
    elapsed / 1000000000 * speed + elapsed % 1000000000 * speed / 1000000000 ≡ elapsed * speed / 1000000000
by_parts elapsed speed =
    let q = elapsed / 1000000000 in
    let r = elapsed % 1000000000 in
    sym (mul-add-div_right (omega arith) (q * speed) (r * speed)) ∙
    ap (λ n. n / 1000000000) (parts-of q r speed ∙ ap (λ n. n * speed) (div-add-mod' elapsed 1000000000))

-- at the machine's own rate
pub own : (elapsed : ℕ) → elapsed * 1000000000 / 1000000000 ≡ elapsed
own elapsed = mul-div_cancel elapsed (omega arith)
