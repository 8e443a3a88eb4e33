use Rattle.std.proofs.Common.{arith, ◌∙◌}
use Rattle.tsp_script.proofs.Outcomes.{none_not_some}
use Rattle.tsp_script.proofs.numbers.front_long.Goals as goal

pub returns-in_err-number-clause-reads : goal.returns-in_err-number-clause-reads
returns-in_err-number-clause-reads c = λ n rest h e. absurd (c.in_err-number.ensures.reads n rest (omega (arith, h)) e)

pub returns-in_err-long_of-clause-reads : goal.returns-in_err-long_of-clause-reads
returns-in_err-long_of-clause-reads c = λ n rest h e.
    let a = c.in_ok-number.ensures.reads n rest (omega (arith, h)) e in
    absurd (none_not_some _ (c.in_err-long_of.ensures.fits (omega (arith, a.0, h))))

pub returns-clause-reads : goal.returns-clause-reads
returns-clause-reads c = λ n rest h e.
    let a = c.in_ok-number.ensures.reads n rest (omega (arith, h)) e in
    (c.in_ok-long_of.ensures.same.0 ∙ a.0, a.1)

pub returns-clause-found : goal.returns-clause-found
returns-clause-found c = (c.in_ok-long_of.ensures.same.1, rw c.in_ok-long_of.ensures.same.0 c.in_ok-number.ensures.found.1)
