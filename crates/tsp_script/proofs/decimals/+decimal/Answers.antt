use Rattle.std.proofs.Common.{◌/◌, ◌%◌, ◌++◌, refl, arith, decimal}
use Rattle.itoa.proofs.Decimal.{length_four, decimal_four}
use Rattle.tsp_script.proofs.PairDigits.{four, written, decimal_eight, length_eight, length_written}
use Rattle.tsp_script.proofs.decimals.+decimal.Goals as goal

pub append_decimal-append_short-requires-then-number-lt100000000-clause-room : goal.append_decimal-append_short-requires-then-number-lt100000000-clause-room
append_decimal-append_short-requires-then-number-lt100000000-clause-room t c = omega (arith, c.requires, length_four c.args.number (omega arith) (omega arith))

pub append_decimal-append_four-requires-clause-room : goal.append_decimal-append_four-requires-clause-room
append_decimal-append_four-requires-clause-room t c =
    let before = length_written c.args.out.now.items c.append_short-then-number-lt100000000.new.out.items (decimal (c.args.number / 10000))
    c.append_short-then-number-lt100000000.ensures in
    omega (arith, c.requires, length_four c.args.number (omega arith) (omega arith), before)

pub append_decimal-returns-then-number-lt100000000 : goal.append_decimal-returns-then-number-lt100000000
append_decimal-returns-then-number-lt100000000 t c =
    let n = c.args.number in
    written c.args.out.now.items _ _ (decimal (n / 10000)) (four (n % 10000)) (decimal n) c.append_short-then-number-lt100000000.ensures c.append_four.ensures
    (decimal_four n (omega arith) (omega arith))

pub append_long-append_decimal-requires : goal.append_long-append_decimal-requires
append_long-append_decimal-requires t c = (omega arith, omega (arith, c.requires.room, length_eight c.args.number (omega arith) (omega arith)))

pub append_long-append_four-requires-clause-room : goal.append_long-append_four-requires-clause-room
append_long-append_four-requires-clause-room t c =
    let first = length_written c.args.out.now.items c.append_decimal.new.out.items (decimal (c.args.number / 100000000)) c.append_decimal.ensures in
    omega (arith, c.requires.room, length_eight c.args.number (omega arith) (omega arith), first)

pub append_long-append_four-requires-2-clause-room : goal.append_long-append_four-requires-2-clause-room
append_long-append_four-requires-2-clause-room t c =
    let n = c.args.number in
    let first = length_written c.args.out.now.items c.append_decimal.new.out.items (decimal (n / 100000000)) c.append_decimal.ensures in
    let then = length_written c.append_decimal.new.out.items c.append_four.new.out.items (four (n % 100000000 / 10000)) c.append_four.ensures in
    omega (arith, c.requires.room, length_eight n (omega arith) (omega arith), first, then)

pub append_long-returns : goal.append_long-returns
append_long-returns t c =
    let n = c.args.number in
    let high = four (n % 100000000 / 10000) in
    let low = four (n % 100000000 % 10000) in
    let both = written c.append_decimal.new.out.items _ _ high low (high ++ low) c.append_four.ensures c.append_four-2.ensures refl in
    written c.args.out.now.items _ _ (decimal (n / 100000000)) (high ++ low) (decimal n) c.append_decimal.ensures both
    (decimal_eight n (omega arith) (omega arith))
