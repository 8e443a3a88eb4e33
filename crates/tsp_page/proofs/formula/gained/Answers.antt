use Rattle.std.proofs.Common.{rules, ◌≡◌, ℤ, pos, ◌+ℤ◌, ◌*ℤ◌, FitsSigned, w64, to_z, of_z, ap, sym, ◌∙◌}
use Rattle.std.proofs.lemmas.Int.{to_z-of_z}
use Rattle.std.specs.Int.{int_div_euclid, int_rem_euclid}
use Rattle.tsp_page.proofs.GainLemmas.{gained_parts, gained_small}
use Rattle.tsp_page.proofs.formula.gained.Goals as goal

-- a product of two numbers that were passed on is their product
passed-product : (r x y : ℤ) → FitsSigned w64 x → FitsSigned w64 y → r ≡ to_z w64 (of_z w64 x) *ℤ to_z w64 (of_z w64 y) → r ≡ x *ℤ y
passed-product r x y fx fy e = let a = to_z-of_z w64 x fx in let b = to_z-of_z w64 y fy in e ∙ (ap (λ z. z *ℤ to_z w64 (of_z w64 y)) a ∙ ap (λ z. x *ℤ z) b)

pub returns-clause-value : goal.returns-clause-value
returns-clause-value c =
    let time = to_z-of_z w64 c.args.elapsed c.ranges.elapsed in
    let w : c.div_euclid.result ≡ int_div_euclid c.args.elapsed (pos 1000000000) = c.div_euclid.ensures ∙ ap (λ z. int_div_euclid z (pos 1000000000)) time in
    let p : c.rem_euclid.result ≡ int_rem_euclid c.args.elapsed (pos 1000000000) = c.rem_euclid.ensures.value ∙ ap (λ z. int_rem_euclid z (pos
    1000000000)) time in
    let parts = gained_parts c.args.rate c.args.elapsed c.div_euclid.result c.rem_euclid.result w p in
    let whole = passed-product c.times-whole.result c.div_euclid.result c.args.rate (search rules) c.ranges.rate c.times-whole.ensures.value in
    let part = passed-product c.times-part.result c.rem_euclid.result c.args.rate (search rules) c.ranges.rate c.times-part.ensures.value in
    let quotient : c.div_euclid-2.result ≡ int_div_euclid (c.rem_euclid.result *ℤ c.args.rate) (pos 1000000000) =
    c.div_euclid-2.ensures ∙ ap (λ z. int_div_euclid z (pos 1000000000)) (to_z-of_z w64 c.times-part.result (search rules) ∙ part) in
    let sum : to_z w64 (of_z w64 (to_z w64 (of_z w64 c.times-whole.result) +ℤ to_z w64 (of_z w64 c.div_euclid-2.result))) ≡ c.times-whole.result +ℤ
    c.div_euclid-2.result = search rules in
    sum ∙ (ap (λ z. z +ℤ c.div_euclid-2.result) whole ∙ (ap (λ z. (c.div_euclid.result *ℤ c.args.rate) +ℤ z) quotient ∙ sym parts))

pub returns-clause-small : goal.returns-clause-small
returns-clause-small c =
    let e = returns-clause-value c in
    rw e (gained_small c.args.rate c.args.elapsed c.requires.rate c.requires.elapsed)
