use Rattle.std.proofs.Common.{◌≡◌, ◌∙◌, sym, rules, to_z, of_z}
use Rattle.std.specs.Int.{w64, w128}
use Rattle.tsp_history.specs.Histories.{history_of, line_of}
use Rattle.tsp_audit.proofs.MeasureLemmas.{trip-decides}
use Rattle.tsp_audit.proofs.measuring.ends_exchange.Goals as goal

pub returns-in-Some : goal.returns-in-Some
returns-in-Some c =
    let err : to_z w64 (of_z w64 c.args.err) ≡ c.args.err = search rules in
    let now : to_z w128 (of_z w128 c.target_at.result) ≡ c.target_at.result = search rules in
    let start : to_z w128 (of_z w128 c.in-Some.start) ≡ c.in-Some.start = search rules in
    trip-decides (line_of c.args.line.now) (history_of c.args.lines.now) c.args.peer c.args.counter c.args.err c.in-Some.start c.target_at.result
    c.is_half.result (sym c.is_going.ensures ∙ c.if-not-is_going.false) c.in-Some.ensures.asked c.target_at.ensures.target
    (rw (now, start, err) at c.is_half.ensures)
