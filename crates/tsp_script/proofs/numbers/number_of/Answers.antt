use Rattle.std.proofs.Common.{◌∙◌, ap, sym, Some, [], append-nil, length, ◌<◌, rules, arith, decimal}
use Rattle.tsp_script.proofs.FrontDigits.{NoDigit_nil, front_alone, none_left}
use Rattle.tsp_script.proofs.numbers.number_of.Goals as goal

pub returns-in_err-number-clause-reads : goal.returns-in_err-number-clause-reads
returns-in_err-number-clause-reads c = λ n h e. absurd (c.in_err-number.ensures.none n [] h NoDigit_nil (e ∙ sym (append-nil (decimal n))))

pub returns-then-is_empty-clause-found : goal.returns-then-is_empty-clause-found
returns-then-is_empty-clause-found c = front_alone _ c.in_ok-number.rest.now _ c.in_ok-number.ensures.found.2 (search rules)

pub returns-then-is_empty-clause-reads : goal.returns-then-is_empty-clause-reads
returns-then-is_empty-clause-reads c = λ n h e.
    let f = c.in_ok-number.ensures.found in
    ap Some (none_left c.in_ok-number.number n c.in_ok-number.rest.now f.0 h f.1 (sym f.2 ∙ e)).0

pub returns-else-is_empty-clause-reads : goal.returns-else-is_empty-clause-reads
returns-else-is_empty-clause-reads c = λ n h e.
    let f = c.in_ok-number.ensures.found in
    let none = (none_left c.in_ok-number.number n c.in_ok-number.rest.now f.0 h f.1 (sym f.2 ∙ e)).1 in
    let some : 0 < length c.in_ok-number.rest.now = search rules in
    absurd (omega (arith, some, ap length none))
