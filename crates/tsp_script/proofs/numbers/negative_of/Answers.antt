use Rattle.std.proofs.Common.{◌≡◌, ◌∙◌, ◌<◌, ◌≤◌, ◌+◌, ◌-◌, ◌^◌, ◌-ℤ◌, ℕ, ℤ, zero, suc, negsuc, pos, ap, arith, refl, Some}
use mir.Val.{to_z, of_z}
use Rattle.std.{proofs.lemmas.Int.to_z-of_z, proofs.lemmas.Int.to_z_pos, specs.Int.w64, specs.Int.RustNames.FitsSigned}
use Rattle.tsp_script.proofs.numbers.negative_of.Goals as goal

below_zero : (k : ℕ) → negsuc 0 -ℤ pos k ≡ negsuc k
below_zero zero = refl
below_zero (suc k) = let e : 0 + k ≡ k = omega arith in ap (λ (n : ℕ). negsuc (suc n)) e

negative : (m : ℕ) → 0 < m → m ≤ 2 ^ 63 → to_z w64 (of_z w64 (negsuc 0 -ℤ to_z w64 (m - 1))) ≡ negsuc (m - 1)
negative m some most =
    let small : m - 1 < 2 ^ 63 = omega (arith, some, most) in
    let fits : FitsSigned w64 (negsuc (m - 1)) = record { sfits = small } in
    ap (λ (z : ℤ). to_z w64 (of_z w64 (negsuc 0 -ℤ z))) (to_z_pos w64 (m - 1) small) ∙ ap (λ (z : ℤ). to_z w64 (of_z w64 z)) (below_zero (m - 1)) ∙
    to_z-of_z w64 (negsuc (m - 1)) fits

pub returns-clause-found : goal.returns-clause-found
returns-clause-found c = (c.args.magnitude - 1, negative c.args.magnitude (omega arith) (omega arith), omega arith)

pub returns-clause-reads : goal.returns-clause-reads
returns-clause-reads c = λ n h e. ap Some (negative c.args.magnitude (omega arith) (omega arith) ∙ ap negsuc (omega (arith, e)))
