use Rattle.std.proofs.Common.{sym}
use Rattle.tsp_history.specs.Histories.{history_of, line_of}
use Rattle.tsp_audit.proofs.TakeLemmas.{brings_found, brings_none, brings_other}
use Rattle.tsp_audit.proofs.brought.brought.Goals as goal

pub returns-in-None : goal.returns-in-None
returns-in-None c = brings_none (line_of c.args.line.now) (history_of c.args.lines.now) c.in-None.ensures

pub returns-else-posts_to : goal.returns-else-posts_to
returns-else-posts_to c =
    brings_other c.args.lines.now (line_of c.args.line.now) c.in-Some.index c.index-lines-index.result c.in-Some.ensures (sym c.index-lines-index.is)
    c.if-posts_to.ensures

pub returns-then-posts_to : goal.returns-then-posts_to
returns-then-posts_to c =
    brings_found c.args.lines.now (line_of c.args.line.now) c.in-Some.index c.index-lines-index.result c.in-Some.ensures (sym c.index-lines-index.is)
    c.if-posts_to.ensures
