use Rattle.std.proofs.Common.{◌∙◌, ◌++◌, ◌∷◌, ap, sym, arith, List, ℕ, decimal}
use Rattle.tsp_script.proofs.{Cuts.numbers_apart, FrontDigits.NoDigit_other, FrontDigits.front_one}
use Rattle.tsp_script.proofs.numbers.front_number.Goals as goal

pub returns-in_err-number-clause-reads : goal.returns-in_err-number-clause-reads
returns-in_err-number-clause-reads c = λ n rest h e. absurd (c.in_err-number.ensures.none n (32 ∷ rest) h (NoDigit_other 32 rest (λ x. omega (arith, x))) e)

pub returns-in_err-rest-clause-reads : goal.returns-in_err-rest-clause-reads
returns-in_err-rest-clause-reads c = λ n rest h e.
    let f = c.in_ok-number.ensures.found in
    let a = front_one c.in_ok-number.number n c.in_ok-number.rest.now (32 ∷ rest) f.0 h f.1 (NoDigit_other 32 rest (λ x. omega (arith, x))) (sym f.2 ∙ e) in
    absurd (c.in_err-rest.ensures rest a.1)

pub returns-clause-found : goal.returns-clause-found
returns-clause-found c =
    let f = c.in_ok-number.ensures.found in
    (f.0, f.2 ∙ ap (λ (x : List ℕ). decimal c.in_ok-number.number ++ x) c.in_ok-rest.ensures)

pub returns-clause-reads : goal.returns-clause-reads
returns-clause-reads c = λ n rest h e.
    let f = c.in_ok-number.ensures.found in
    let w = f.2 ∙ ap (λ (x : List ℕ). decimal c.in_ok-number.number ++ x) c.in_ok-rest.ensures in
    numbers_apart c.in_ok-number.number n c.in_ok-rest.rest.now rest f.0 h (sym w ∙ e)
