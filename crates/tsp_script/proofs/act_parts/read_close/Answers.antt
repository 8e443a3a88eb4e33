use Rattle.std.proofs.Common.{◌∙◌, ◌++◌, ◌∷◌, ℤ, List, ℕ, ap, rules, refl, Some}
use mir.Val.{to_z, of_z}
use Rattle.std.{proofs.lemmas.Int.to_z-of_z, specs.Fmt.signed_decimal, specs.Int.w64, specs.Int.RustNames.FitsSigned}
use Rattle.tsp_script.proofs.{ActTexts.close_of_parts, Outcomes.none_not_some, Outcomes.some_injective}
use Rattle.tsp_script.proofs.act_parts.read_close.Goals as goal

-- what follows the count and the least difference
abbrev behind_lo : ℤ → ℤ → List ℕ
behind_lo width mean = signed_decimal width ++ 32 ∷ signed_decimal mean

abbrev behind_count : ℤ → ℤ → ℤ → List ℕ
behind_count lo width mean = signed_decimal lo ++ 32 ∷ behind_lo width mean

pub returns-in_err-count-clause-reads : goal.returns-in_err-count-clause-reads
returns-in_err-count-clause-reads c = λ count lo width mean h k d f e.
    absurd (c.in_err-count.ensures.reads count (behind_count lo width mean) h e)

pub returns-in_err-lo-clause-reads : goal.returns-in_err-lo-clause-reads
returns-in_err-lo-clause-reads c = λ count lo width mean h k d f e.
    let a = c.in_ok-count.ensures.reads count (behind_count lo width mean) h e in
    absurd (c.in_err-lo.ensures.reads lo (behind_lo width mean) k a.1)

pub returns-in_err-width-clause-reads : goal.returns-in_err-width-clause-reads
returns-in_err-width-clause-reads c = λ count lo width mean h k d f e.
    let a = c.in_ok-count.ensures.reads count (behind_count lo width mean) h e in
    let b = c.in_ok-lo.ensures.reads lo (behind_lo width mean) k a.1 in
    absurd (c.in_err-width.ensures.reads width (signed_decimal mean) d b.1)

pub returns-in_err-mean-clause-reads : goal.returns-in_err-mean-clause-reads
returns-in_err-mean-clause-reads c = λ count lo width mean h k d f e.
    let a = c.in_ok-count.ensures.reads count (behind_count lo width mean) h e in
    let b = c.in_ok-lo.ensures.reads lo (behind_lo width mean) k a.1 in
    let x = c.in_ok-width.ensures.reads width (signed_decimal mean) d b.1 in
    absurd (none_not_some _ (c.in_err-mean.ensures.reads mean f x.1))

pub returns-clause-reads : goal.returns-clause-reads
returns-clause-reads c = λ count lo width mean h k d f e.
    let a = c.in_ok-count.ensures.reads count (behind_count lo width mean) h e in
    let b = c.in_ok-lo.ensures.reads lo (behind_lo width mean) k a.1 in
    let x = c.in_ok-width.ensures.reads width (signed_decimal mean) d b.1 in
    let y = some_injective _ _ (c.in_ok-mean.ensures.reads mean f x.1) in
    let least = ap (λ (v : ℤ). to_z w64 (of_z w64 v)) b.0 ∙ to_z-of_z w64 lo k in
    let wide = ap (λ (v : ℤ). to_z w64 (of_z w64 v)) x.0 ∙ to_z-of_z w64 width d in
    let middle = ap (λ (v : ℤ). to_z w64 (of_z w64 v)) y ∙ to_z-of_z w64 mean f in
    ap Some (close_of_parts _ _ _ _ count lo width mean a.0 least wide middle)

pub returns-clause-found : goal.returns-clause-found
returns-clause-found c =
    let lo : FitsSigned w64 c.in_ok-lo.lo = search rules in
    let width : FitsSigned w64 c.in_ok-width.width = search rules in
    let mean : FitsSigned w64 c.in_ok-mean.mean = search rules in (
      (
        refl,
        c.in_ok-count.ensures.found.1 ∙ rw (
          c.in_ok-lo.ensures.found,
          c.in_ok-width.ensures.found,
          c.in_ok-mean.ensures.found,
          to_z-of_z w64 c.in_ok-lo.lo lo,
          to_z-of_z w64 c.in_ok-width.width width,
          to_z-of_z w64 c.in_ok-mean.mean mean,
        ) refl,
      ),
      ((c.in_ok-count.ensures.found.0, search rules, search rules, search rules), refl),
    )
