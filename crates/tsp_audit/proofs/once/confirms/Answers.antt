use Rattle.std.proofs.Common.{◌∙◌, ap, sym, rules}
use Rattle.tsp_history.specs.Histories.{deed_of, history_of, line_of}
use Rattle.tsp_audit.proofs.ActLemmas.{confirmed-rest, confirmed-yes}
use Rattle.tsp_audit.proofs.once.confirms.Goals as goal

pub returns-then-contains : goal.returns-then-contains
returns-then-contains c acted =
    confirmed-yes (line_of c.args.line.now) (history_of c.args.lines.now) c.args.acted.now c.in-Acked.p c.in-Some.number acted
    (ap deed_of c.in-Acked.ensures.act.1) (search rules) (sym c.contains.ensures.value ∙ c.if-contains.true)

pub returns-else-contains : goal.returns-else-contains
returns-else-contains c acted =
    confirmed-rest (line_of c.args.line.now) (history_of c.args.lines.now) c.args.acted.now c.in-Acked.p c.in-Some.number c.corrects.result acted
    (ap deed_of c.in-Acked.ensures.act.1) (search rules) c.corrects.ensures (sym c.contains.ensures.value ∙ c.if-contains.false)
