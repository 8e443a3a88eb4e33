use Rattle.std.proofs.Common.{ap}
use Rattle.tsp_history.specs.Histories.{deed_of, line_of, history_of}
use Rattle.tsp_audit.proofs.BackLemmas.{held_decides}
use Rattle.tsp_audit.proofs.backing.holds.Goals as goal

pub returns-in-Back : goal.returns-in-Back
returns-in-Back c =
    held_decides c.is_held.result (line_of c.args.line.now) (history_of c.args.lines.now) c.in-Back.p (ap deed_of c.in-Back.ensures.act.1) c.is_held.ensures
