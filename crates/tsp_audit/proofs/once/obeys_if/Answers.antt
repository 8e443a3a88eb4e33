use Rattle.tsp_promises.specs.Once.{ObeysAt}
use Rattle.tsp_history.specs.Histories.{history_of, line_of}
use Rattle.tsp_audit.proofs.ActLemmas.{if_asked}
use Rattle.tsp_audit.proofs.once.obeys_if.Goals as goal

pub returns-then-honest : goal.returns-then-honest
returns-then-honest c setting has timely = if_asked c.obeys.result c.args.honest (ObeysAt setting (line_of c.args.line.now) (history_of c.args.lines.now))
    c.if-honest.true (c.obeys.ensures setting has timely)
