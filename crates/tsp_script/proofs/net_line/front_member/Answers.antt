use Rattle.std.proofs.Common.{arith, sym, ◌∙◌}
use Rattle.tsp_script.proofs.{FrontDigits.front_one, NetLines.NoNumber, Outcomes.if_none, Outcomes.none_not_some}
use Rattle.tsp_script.proofs.net_line.front_member.Goals as goal

pub returns-in_err-number-clause-none : goal.returns-in_err-number-clause-none
returns-in_err-number-clause-none c =
    let no : NoNumber c.args.text.now = λ n rest h b e. c.in_err-number.ensures.none n rest (omega (arith, h)) b e in
    if_none _ no

pub returns-in_err-long_of-clause-none : goal.returns-in_err-long_of-clause-none
returns-in_err-long_of-clause-none c =
    let no : NoNumber c.args.text.now = λ n rest h b e.
    let f = c.in_ok-number.ensures.found in
    let same = front_one c.in_ok-number.number n c.in_ok-number.rest.now rest f.0 (omega (arith, h)) f.1 b (sym f.2 ∙ e) in
    none_not_some _ (c.in_err-long_of.ensures.fits (omega (arith, same.0, h)))
    in if_none _ no
