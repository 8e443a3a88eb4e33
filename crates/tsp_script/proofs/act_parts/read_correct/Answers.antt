use Rattle.std.proofs.Common.{◌∙◌, ◌++◌, ◌∷◌, ap, rules, refl, Some, ℤ}
use mir.Val.{to_z, of_z}
use Rattle.std.{proofs.lemmas.Int.to_z-of_z, specs.Fmt.signed_decimal, specs.Int.w64, specs.Int.RustNames.FitsSigned}
use Rattle.tsp_script.proofs.{ActTexts.correct_of_parts, ActTexts.no_space_way_text, Cuts.cut_front, Outcomes.none_not_some, Outcomes.some_injective}
use Rattle.tsp_script.specs.Verbs.{way_text}
use Rattle.tsp_script.proofs.act_parts.read_correct.Goals as goal

pub returns-in_err-amount-clause-reads : goal.returns-in_err-amount-clause-reads
returns-in_err-amount-clause-reads c = λ amount stepped shown h k e.
    absurd (c.in_err-amount.ensures.reads amount (way_text stepped ++ 32 ∷ signed_decimal shown) h e)

pub returns-in_err-way-clause-reads : goal.returns-in_err-way-clause-reads
returns-in_err-way-clause-reads c = λ amount stepped shown h k e.
    let a = c.in_ok-amount.ensures.reads amount (way_text stepped ++ 32 ∷ signed_decimal shown) h e in
    absurd (c.in_err-way.ensures.none (way_text stepped) (signed_decimal shown) a.1)

pub returns-in_err-stepped-clause-reads : goal.returns-in_err-stepped-clause-reads
returns-in_err-stepped-clause-reads c = λ amount stepped shown h k e.
    let a = c.in_ok-amount.ensures.reads amount (way_text stepped ++ 32 ∷ signed_decimal shown) h e in
    let f = cut_front c.in_ok-amount.rest.now (way_text stepped) (signed_decimal shown) (no_space_way_text stepped) a.1 in
    absurd (none_not_some _ (c.in_err-stepped.ensures.reads way_text refl refl stepped (c.in_ok-way.ensures.found.0 ∙ f.0)))

pub returns-in_err-shown-clause-reads : goal.returns-in_err-shown-clause-reads
returns-in_err-shown-clause-reads c = λ amount stepped shown h k e.
    let a = c.in_ok-amount.ensures.reads amount (way_text stepped ++ 32 ∷ signed_decimal shown) h e in
    let f = cut_front c.in_ok-amount.rest.now (way_text stepped) (signed_decimal shown) (no_space_way_text stepped) a.1 in
    absurd (none_not_some _ (c.in_err-shown.ensures.reads shown k (c.in_ok-way.ensures.found.1 ∙ f.1)))

pub returns-clause-reads : goal.returns-clause-reads
returns-clause-reads c = λ amount stepped shown h k e.
    let a = c.in_ok-amount.ensures.reads amount (way_text stepped ++ 32 ∷ signed_decimal shown) h e in
    let f = cut_front c.in_ok-amount.rest.now (way_text stepped) (signed_decimal shown) (no_space_way_text stepped) a.1 in
    let s = some_injective _ _ (c.in_ok-stepped.ensures.reads way_text refl refl stepped (c.in_ok-way.ensures.found.0 ∙ f.0)) in
    let z = some_injective _ _ (c.in_ok-shown.ensures.reads shown k (c.in_ok-way.ensures.found.1 ∙ f.1)) in
    let near = ap (λ (v : ℤ). to_z w64 (of_z w64 v)) a.0 ∙ to_z-of_z w64 amount h in
    let last = ap (λ (v : ℤ). to_z w64 (of_z w64 v)) z ∙ to_z-of_z w64 shown k in
    ap Some (correct_of_parts _ _ _ amount stepped shown near s last)

pub returns-clause-found : goal.returns-clause-found
returns-clause-found c =
    let amount : FitsSigned w64 c.in_ok-amount.amount = search rules in
    let shown : FitsSigned w64 c.in_ok-shown.shown = search rules in
    let way = c.in_ok-stepped.ensures.found way_text refl refl in (
      (
        refl,
        c.in_ok-amount.ensures.found ∙ rw (
          c.in_ok-way.ensures.found.2,
          way,
          c.in_ok-shown.ensures.found,
          to_z-of_z w64 c.in_ok-amount.amount amount,
          to_z-of_z w64 c.in_ok-shown.shown shown,
        ) refl,
      ),
      ((search rules, search rules), refl),
    )
