use Rattle.std.proofs.Common.{ap, Some, [], length, ◌<◌, rules, arith}
use Rattle.tsp_script.proofs.{FrontDigits.NoDigit_nil, PlainLines.plain_alone, PlainLines.plain_one, PlainLines.plain_spelled}
use Rattle.tsp_script.proofs.event_line.plain_line.Goals as goal

pub returns-in_err-plain-clause-reads : goal.returns-in_err-plain-clause-reads
returns-in_err-plain-clause-reads c = λ plain i s. absurd (c.in_err-plain.ensures.none plain [] i s.0 NoDigit_nil (plain_spelled c.args.line.now plain i s))

pub returns-then-is_empty-clause-found : goal.returns-then-is_empty-clause-found
returns-then-is_empty-clause-found c =
    let f = c.in_ok-plain.ensures.found in
    (f.0, (f.1, plain_alone c.args.line.now c.in_ok-plain.rest.now c.in_ok-plain.plain f.0 f.3 (search rules)))

pub returns-then-is_empty-clause-reads : goal.returns-then-is_empty-clause-reads
returns-then-is_empty-clause-reads c = λ plain i s.
    let f = c.in_ok-plain.ensures.found in
    ap Some (plain_one c.in_ok-plain.plain plain c.args.line.now c.in_ok-plain.rest.now [] f.0 i f.1 s.0 f.2 NoDigit_nil f.3
    (plain_spelled c.args.line.now plain i s)).0

pub returns-else-is_empty-clause-reads : goal.returns-else-is_empty-clause-reads
returns-else-is_empty-clause-reads c = λ plain i s.
    let f = c.in_ok-plain.ensures.found in
    let none = (plain_one c.in_ok-plain.plain plain c.args.line.now c.in_ok-plain.rest.now [] f.0 i f.1 s.0 f.2 NoDigit_nil f.3
    (plain_spelled c.args.line.now plain i s)).1 in
    let some : 0 < length c.in_ok-plain.rest.now = search rules in
    absurd (omega (arith, some, ap length none))
