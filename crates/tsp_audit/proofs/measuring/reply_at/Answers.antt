use Rattle.std.proofs.Common.{sym}
use Rattle.tsp_history.specs.Histories.{history_of, line_of}
use Rattle.tsp_audit.proofs.MeasureLemmas.{replies_found, replies_none, replies_other}
use Rattle.tsp_audit.proofs.measuring.reply_at.Goals as goal

pub returns-in-None : goal.returns-in-None
returns-in-None c = replies_none (line_of c.args.line.now) (history_of c.args.lines.now) c.args.peer c.in-None.ensures

pub returns-else-replies_to : goal.returns-else-replies_to
returns-else-replies_to c =
    replies_other c.args.lines.now (line_of c.args.line.now) c.args.peer c.in-Some.index c.index-lines-index.result c.in-Some.ensures
    (sym c.index-lines-index.is) c.if-replies_to.ensures

pub returns-then-replies_to : goal.returns-then-replies_to
returns-then-replies_to c =
    replies_found c.args.lines.now (line_of c.args.line.now) c.args.peer c.in-Some.index c.index-lines-index.result c.in-Some.ensures
    (sym c.index-lines-index.is) c.if-replies_to.ensures
