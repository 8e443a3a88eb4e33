use Rattle.std.proofs.Common.{◌≡◌, ap, rules, to_z, of_z}
use Rattle.std.specs.Int.{w64}
use Rattle.tsp_history.specs.Histories.{deed_of, history_of, line_of}
use Rattle.tsp_audit.proofs.MeasureLemmas.{measured_line}
use Rattle.tsp_audit.proofs.measuring.errs_little.Goals as goal

pub returns-in-Sample : goal.returns-in-Sample
returns-in-Sample c setting has timely =
    let o = c.in-Sample in
    let diff : to_z w64 (of_z w64 o.diff) ≡ o.diff = search rules in
    let err : to_z w64 (of_z w64 o.err) ≡ o.err = search rules in
    measured_line setting (line_of c.args.line.now) (history_of c.args.lines.now) o.peer o.field-1 o.diff o.err o.field-4 c.has_reading.result
    (ap deed_of o.ensures.act.1) (rw (diff, err) at (c.has_reading.ensures setting has timely))
