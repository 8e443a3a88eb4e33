use Rattle.std.proofs.Common.{◌≡◌, ap, rules, to_z, of_z}
use Rattle.std.specs.Int.{w64}
use Rattle.tsp_history.specs.Histories.{deed_of, history_of, line_of}
use Rattle.tsp_audit.proofs.MeasureLemmas.{trip-line}
use Rattle.tsp_audit.proofs.measuring.trips_well.Goals as goal

pub returns-in-Sample : goal.returns-in-Sample
returns-in-Sample c =
    let o = c.in-Sample in
    let err : to_z w64 (of_z w64 o.err) ≡ o.err = search rules in
    trip-line (line_of c.args.line.now) (history_of c.args.lines.now) o.peer o.counter o.field-2 o.err o.field-4 c.ends_exchange.result
    (ap deed_of o.ensures.act.1) (rw err at c.ends_exchange.ensures)
