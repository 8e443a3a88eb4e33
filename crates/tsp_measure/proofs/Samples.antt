-- Lemmas on the numbers of a sample.
use Rattle.std.proofs.Common.{◌≡◌, ℤ, ◌-ℤ◌, arith, FitsSigned, to_z, of_z}
use Rattle.std.{proofs.lemmas.Int.ints, specs.Int.w64}
use Rattle.tsp_base.specs.Words.{half_down}
use Rattle.tsp_measure.{proofs.Halves.half_down_low, proofs.Halves.half_down_high, specs.Measures.IsReading, specs.Measures.IsStamp}

-- how the code writes a difference
abbrev pub kept : ℤ → ℤ → ℤ
kept x y = to_z w64 (of_z w64 (to_z w64 (of_z w64 x) -ℤ to_z w64 (of_z w64 y)))

pub trip_is : (a d : ℤ) → IsReading a → IsReading d → kept d a ≡ d -ℤ a
trip_is a d p q = let a1 = p.low in let a2 = p.high in let d1 = q.low in let d2 = q.high in omega (arith, ints)

pub ahead_is : (a s : ℤ) → IsReading a → IsStamp s → kept s a ≡ s -ℤ a
ahead_is a s p q = let a1 = p.low in let a2 = p.high in let s1 = q.low in let s2 = q.high in omega (arith, ints)

pub diff_fits : (a s d : ℤ) → IsReading a → IsStamp s → IsReading d → FitsSigned w64 ((s -ℤ a) -ℤ half_down (d -ℤ a))
diff_fits a s d p q r =
    let a1 = p.low in let a2 = p.high in let s1 = q.low in let s2 = q.high in let d1 = r.low in let d2 = r.high in
    let h = half_down_low (d -ℤ a) in
    let k = half_down_high (d -ℤ a) in
    omega (arith, ints, h, k)

pub half_fits : (a d : ℤ) → IsReading a → IsReading d → FitsSigned w64 (half_down (d -ℤ a))
half_fits a d p r =
    let a1 = p.low in let a2 = p.high in let d1 = r.low in let d2 = r.high in
    let h = half_down_low (d -ℤ a) in
    let k = half_down_high (d -ℤ a) in
    omega (arith, ints, h, k)

pub err_fits : (a d : ℤ) → IsReading a → IsReading d → FitsSigned w64 ((d -ℤ a) -ℤ half_down (d -ℤ a))
err_fits a d p r =
    let a1 = p.low in let a2 = p.high in let d1 = r.low in let d2 = r.high in
    let h = half_down_low (d -ℤ a) in
    let k = half_down_high (d -ℤ a) in
    omega (arith, ints, h, k)
