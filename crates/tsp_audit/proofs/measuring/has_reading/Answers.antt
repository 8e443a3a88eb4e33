use Rattle.std.proofs.Common.{◌≡◌, ◌≤◌, rules, get_or, to_z, of_z, sym}
use Rattle.std.specs.Int.{w64, w128}
use Rattle.tsp_history.specs.{Histories.history_of, Histories.line_of, declared.line.HistoryLine.HistoryLine}
use Rattle.tsp_audit.{proofs.MeasureLemmas.read_decides, proofs.MeasureLemmas.read_none, specs.Measuring.RepliesAt, proofs.Prefixes.at_line}
use Rattle.tsp_history.proofs.NoteLemmas.{told_take}
use Rattle.tsp_audit.proofs.measuring.has_reading.Goals as goal

pub returns-in-None : goal.returns-in-None
returns-in-None c setting has timely = read_none setting (line_of c.args.line.now) (history_of c.args.lines.now) c.args.peer c.args.diff c.args.err
    c.in-None.ensures

pub returns-in-Some : goal.returns-in-Some
returns-in-Some c setting has timely =
    let at : RepliesAt c.args.lines.now (line_of c.args.line.now) c.args.peer c.in-Some.index = c.in-Some.ensures in
    let noted : HistoryLine = c.index-lines-index.result in
    let here : get_or c.args.lines.now c.in-Some.index noted ≡ noted = sym c.index-lines-index.is in
    let soon : noted.at ≤ 1000000000000000 = at_line (λ l before. l.did.step.at ≤ 1000000000000000) c.args.lines.now c.in-Some.index noted at.below here timely
    in
    let diff : to_z w64 (of_z w64 c.args.diff) ≡ c.args.diff = search rules in
    let err : to_z w64 (of_z w64 c.args.err) ≡ c.args.err = search rules in
    let ahead : to_z w128 (of_z w128 c.clock_at-ahead.result) ≡ c.clock_at-ahead.result = search rules in
    let own : to_z w128 (of_z w128 c.clock_at-own.result) ≡ c.clock_at-own.result = search rules in
    read_decides c.args.header.now setting c.args.lines.now (line_of c.args.line.now) c.args.peer c.in-Some.index noted c.stands_ahead.result c.args.diff
    c.args.err c.clock_at-ahead.result c.clock_at-own.result has at here (c.clock_at-ahead.ensures.clock soon) (c.clock_at-own.ensures.clock soon)
    (rw (ahead, own, diff, err) at c.stands_ahead.ensures)

pub clock_at-ahead-requires-clause-told : goal.clock_at-ahead-requires-clause-told
clock_at-ahead-requires-clause-told c = told_take c.args.lines.now _ c.requires.told

pub clock_at-own-requires-clause-told : goal.clock_at-own-requires-clause-told
clock_at-own-requires-clause-told c = told_take c.args.lines.now _ c.requires.told
