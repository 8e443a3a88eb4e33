use Rattle.std.proofs.Common.{◌∙◌, ◌++◌, ◌∷◌, ap, rules, ℤ, List, ℕ}
use mir.Val.{to_z, of_z}
use Rattle.std.{proofs.lemmas.Int.to_z-of_z, specs.Fmt.signed_decimal, specs.Int.w64, specs.Int.RustNames.FitsSigned}
use Rattle.tsp_script.proofs.{Cuts.cut_front, Cuts.no_space_signed, Outcomes.none_or_some, Outcomes.some_once}
use Rattle.tsp_script.proofs.numbers.front_signed.Goals as goal

pub returns-clause-found : goal.returns-clause-found
returns-clause-found c =
    let fits : FitsSigned w64 c.in_ok-number.number = search rules in
    rw (to_z-of_z w64 c.in_ok-number.number fits) (c.in_ok-word.ensures.found.2 ∙
    ap (λ (w : List ℕ). w ++ 32 ∷ c.in_ok-word.rest.now) c.in_ok-number.ensures.found)

pub returns-clause-reads : goal.returns-clause-reads
returns-clause-reads c = λ n rest h e.
    let f = cut_front c.args.line.now _ rest (no_space_signed n h) e in
    let m = some_once _ _ _ c.in_ok-number.was (c.signed_of.ensures.reads n h (c.in_ok-word.ensures.found.0 ∙ f.0)) in
    (ap (λ (z : ℤ). to_z w64 (of_z w64 z)) m ∙ to_z-of_z w64 n h, c.in_ok-word.ensures.found.1 ∙ f.1)

pub returns-in_err-word-clause-reads : goal.returns-in_err-word-clause-reads
returns-in_err-word-clause-reads c = λ n rest h e. absurd (c.in_err-word.ensures.none (signed_decimal n) rest e)

pub returns-in_err-number-clause-reads : goal.returns-in_err-number-clause-reads
returns-in_err-number-clause-reads c = λ n rest h e.
    let f = cut_front c.args.line.now _ rest (no_space_signed n h) e in
    absurd (none_or_some _ _ c.in_err-number.was (c.signed_of.ensures.reads n h (c.in_ok-word.ensures.found.0 ∙ f.0)))
