use Rattle.std.proofs.Common.{rules, sym}
use Rattle.tsp_history.specs.Histories.{history_of, line_of}
use Rattle.tsp_audit.proofs.FromRoundLemmas.{begun_found, begun_other, takes_none, takes_posted}
use Rattle.tsp_audit.proofs.from_round.begun.Goals as goal

pub returns-in_default : goal.returns-in_default
returns-in_default c = takes_none (line_of c.args.line.now) (history_of c.args.lines.now) (search rules)

pub returns-in-None : goal.returns-in-None
returns-in-None c = absurd (takes_posted (line_of c.args.line.now) (history_of c.args.lines.now) c.in-Some.number c.in-Some.ensures c.in-None.ensures)

pub returns-then-is_adjusting : goal.returns-then-is_adjusting
returns-then-is_adjusting c =
    begun_found c.args.lines.now (line_of c.args.line.now) c.in-Some.number c.in-Some-post_at.index c.index-lines-index.result c.in-Some.ensures
    c.in-Some-post_at.ensures (sym c.index-lines-index.is) c.if-is_adjusting.ensures

pub returns-else-is_adjusting : goal.returns-else-is_adjusting
returns-else-is_adjusting c =
    begun_other c.args.lines.now (line_of c.args.line.now) c.in-Some.number c.in-Some-post_at.index c.index-lines-index.result c.in-Some.ensures
    c.in-Some-post_at.ensures (sym c.index-lines-index.is) c.if-is_adjusting.ensures
