use Rattle.std.proofs.Common.{arith}
use Rattle.tsp_script.proofs.FrontDigits.{digits_split, if_found, if_unfound}
use Rattle.tsp_script.proofs.digit_reader.digits_behind.Goals as goal

pub returns-in-Some : goal.returns-in-Some
returns-in-Some c =
    let s = digits_split c.args.front c.digits_on-number.result.0 c.digits_on-number.result.1 c.args.digits.now c.split_at.result.1.now
    c.digits_on-number.ensures.number c.split_at.ensures.back in
    record {
      found = if_found c.each_digit.result (λ r. r.0) (λ r. r.1.now) _ _ s c.each_digit.ensures.found;
      none = if_unfound c.each_digit.result _ _ s c.each_digit.ensures.none;
    }

pub returns-in-None-clause-found : goal.returns-in-None-clause-found
returns-in-None-clause-found c =
    let s = digits_split c.args.front c.digits_on-number.result.0 c.digits_on-number.result.1 c.args.digits.now c.split_at.result.1.now
    c.digits_on-number.ensures.number c.split_at.ensures.back in
    (omega arith, c.in-None.ensures.none, s)
