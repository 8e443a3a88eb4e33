use Rattle.std.proofs.Common.{◌+◌, ◌/◌, ◌%◌, [], ◌∷◌, ◌++◌, ◌∙◌, ap, sym, arith, decimal}
use Rattle.std.proofs.lemmas.Fmt.{decimal_digit}
use Rattle.itoa.proofs.Decimal.{length_one, length_two, decimal_two}
use Rattle.tsp_script.proofs.PairDigits.{pair, written, decimal_three, decimal_four_alone, length_three, length_four_alone}
use Rattle.tsp_script.proofs.decimals.append_short.Goals as goal

pub push-requires : goal.push-requires
push-requires c = omega (arith, length_one c.args.number (omega arith))

pub append_pair-requires-clause-room : goal.append_pair-requires-clause-room
append_pair-requires-clause-room c = omega (arith, length_two c.args.number (omega arith) (omega arith))

pub push-requires-then-number-lt1000 : goal.push-requires-then-number-lt1000
push-requires-then-number-lt1000 c = omega (arith, length_three c.args.number (omega arith) (omega arith))

pub append_pair-requires-then-number-lt1000-clause-room : goal.append_pair-requires-then-number-lt1000-clause-room
append_pair-requires-then-number-lt1000-clause-room c = omega (arith, length_three c.args.number (omega arith) (omega arith))

pub append_four-requires-clause-room : goal.append_four-requires-clause-room
append_four-requires-clause-room c = omega (arith, length_four_alone c.args.number (omega arith) (omega arith))

pub returns-then-number-lt10 : goal.returns-then-number-lt10
returns-then-number-lt10 c = c.push.ensures.items ∙ ap (λ l. c.args.out.now.items ++ l) (sym (decimal_digit c.args.number (omega arith)))

pub returns-then-number-lt100 : goal.returns-then-number-lt100
returns-then-number-lt100 c = c.append_pair.ensures ∙ ap (λ l. c.args.out.now.items ++ l) (sym (decimal_two c.args.number (omega arith) (omega arith)))

pub returns-then-number-lt1000 : goal.returns-then-number-lt1000
returns-then-number-lt1000 c =
    let n = c.args.number in
    written c.args.out.now.items _ _ ((48 + n / 100) ∷ []) (pair (n % 100)) (decimal n) c.push-then-number-lt1000.ensures.items
    c.append_pair-then-number-lt1000.ensures (decimal_three n (omega arith) (omega arith))

pub returns-else-number-lt1000 : goal.returns-else-number-lt1000
returns-else-number-lt1000 c = c.append_four.ensures ∙ ap (λ l. c.args.out.now.items ++ l) (sym (decimal_four_alone c.args.number (omega arith) (omega arith)))
