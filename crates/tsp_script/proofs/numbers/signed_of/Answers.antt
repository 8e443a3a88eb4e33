use Rattle.std.proofs.Common.{◌∙◌, ap, sym, arith, suc, Some}
use Rattle.tsp_script.proofs.{FrontDigits.signed_behind, Outcomes.none_not_some, Outcomes.some_injective}
use Rattle.tsp_script.proofs.numbers.signed_of.Goals as goal

pub returns-in_err-number_of-in-Some-clause-reads : goal.returns-in_err-number_of-in-Some-clause-reads
returns-in_err-number_of-in-Some-clause-reads c = λ z h e.
    let m = signed_behind c.args.word.now c.in-Some.digits.now z h c.in-Some.ensures e in
    absurd (none_not_some _ (c.in_err-number_of-in-Some.ensures.reads (suc m.0) (omega (arith, m.2)) m.3))

pub returns-in_ok-number_of-in-Some-clause-reads : goal.returns-in_ok-number_of-in-Some-clause-reads
returns-in_ok-number_of-in-Some-clause-reads c = λ z h e.
    let m = signed_behind c.args.word.now c.in-Some.digits.now z h c.in-Some.ensures e in
    c.negative_of.ensures.reads m.0 m.2 (some_injective _ _ (c.in_ok-number_of-in-Some.ensures.reads (suc m.0) (omega (arith, m.2)) m.3)) ∙ ap Some (sym m.1)
