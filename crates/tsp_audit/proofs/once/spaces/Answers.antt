use Rattle.std.proofs.Common.{ap}
use Rattle.tsp_history.specs.Histories.{deed_of, history_of, line_of}
use Rattle.tsp_audit.proofs.TakeLemmas.{spaced_decides}
use Rattle.tsp_audit.proofs.once.spaces.Goals as goal

pub returns-in-Correct : goal.returns-in-Correct
returns-in-Correct c =
    let o = c.in-Correct in
    spaced_decides c.is_spaced.result (line_of c.args.line.now) (history_of c.args.lines.now) o.field-0 o.field-1 o.field-2 (ap deed_of o.ensures.act.1)
    c.is_spaced.ensures
