use Rattle.std.proofs.Common.{arith}
use Rattle.tsp_script.proofs.{FrontDigits.digit_taken, FrontDigits.too_large, Outcomes.if_none}
use Rattle.tsp_script.proofs.digit_reader.each_digit.Goals as goal

pub returns-in_err-number-clause-none : goal.returns-in_err-number-clause-none
returns-in_err-number-clause-none c =
    let i = c.loop-digit.invariant in
    let f = c.in-Some.ensures.found in
    if_none _ (too_large c.args.front c.loop-digit.number c.in-Some.digit c.args.digits.now c.loop-digit.rest.now c.in-Some.behind.now i.0 i.1 f.0 f.1 i.2
    c.in_err-number.ensures)

pub loop-digit-preserved : goal.loop-digit-preserved
loop-digit-preserved c =
    let i = c.loop-digit.invariant in
    let f = c.in-Some.ensures.found in (
      omega (arith, i.0, c.in_ok-number.ensures),
      omega arith,
      rw c.in_ok-number.ensures (digit_taken c.args.front c.loop-digit.number c.in-Some.digit
          c.args.digits.now c.loop-digit.rest.now c.in-Some.behind.now i.0 i.1 f.0 f.1 i.2),
    )

pub returns-clause-found : goal.returns-clause-found
returns-clause-found c = (c.loop-digit.invariant.1, c.in_default.ensures.none, c.loop-digit.invariant.2)
