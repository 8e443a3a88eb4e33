use Rattle.std.proofs.Common.{arith}
use Rattle.tsp_script.proofs.FrontDigits.{digit_and, no_number, no_leading_zero, zero_first, if_found, if_unfound}
use Rattle.tsp_script.proofs.Outcomes.{if_none}
use Rattle.tsp_script.proofs.digit_reader.front_digits.Goals as goal

pub returns-in_err-first-clause-none : goal.returns-in_err-first-clause-none
returns-in_err-first-clause-none c = if_none _ (no_number c.args.octets.now c.in_err-first.ensures.none)

pub returns-then-first-gt0 : goal.returns-then-first-gt0
returns-then-first-gt0 c =
    let f = c.in_ok-first.ensures.found in
    record {
      found = if_found c.digits_behind.result (λ r. r.0) (λ r. r.1.now) _ _ (digit_and c.in_ok-first.first c.args.octets.now c.in_ok-first.rest.now f.0 f.1)
          c.digits_behind.ensures.found;
      none = if_unfound c.digits_behind.result _ _ (digit_and c.in_ok-first.first c.args.octets.now c.in_ok-first.rest.now f.0 f.1)
          c.digits_behind.ensures.none;
    }

pub returns-in-Some-clause-none : goal.returns-in-Some-clause-none
returns-in-Some-clause-none c =
    let f = c.in_ok-first.ensures.found in
    let g = c.in-Some.ensures.found in
    no_leading_zero _ c.args.octets.now c.in_ok-first.rest.now _ g.0 (zero_first c.in_ok-first.first c.args.octets.now c.in_ok-first.rest.now (omega arith) f.1)
    g.1

pub returns-in-None-clause-found : goal.returns-in-None-clause-found
returns-in-None-clause-found c =
    let f = c.in_ok-first.ensures.found in (
      omega arith,
      c.in-None.ensures.none,
      digit_and 0 c.args.octets.now c.in_ok-first.rest.now (omega arith) (zero_first c.in_ok-first.first c.args.octets.now
          c.in_ok-first.rest.now (omega arith) f.1),
    )
