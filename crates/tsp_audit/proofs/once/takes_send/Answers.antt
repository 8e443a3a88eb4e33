use Rattle.std.proofs.Common.{sym}
use Rattle.tsp_history.{proofs.NoteLemmas.told_take, specs.Histories.line_of}
use Rattle.tsp_audit.proofs.TakeLemmas.{takes_decide, takes_unnumbered}
use Rattle.tsp_audit.proofs.once.takes_send.Goals as goal

pub returns-in-None : goal.returns-in-None
returns-in-None c s t = c.in-None.ensures t.post t.older t.acts.brings

pub returns-then-is_numbered : goal.returns-then-is_numbered
returns-then-is_numbered c =
    takes_decide c.args.lines.now (line_of c.args.line.now) c.in-Some.index c.index-lines-index.result c.begun_to.result c.in-Some.ensures
    (sym c.index-lines-index.is) c.if-not-acts.ensures c.if-is_numbered.ensures c.begun_to.ensures

pub returns-else-is_numbered : goal.returns-else-is_numbered
returns-else-is_numbered c s =
    takes_unnumbered c.args.lines.now (line_of c.args.line.now) c.in-Some.index c.index-lines-index.result s c.in-Some.ensures
    (sym c.index-lines-index.is) c.if-is_numbered.ensures

pub begun_to-requires : goal.begun_to-requires
begun_to-requires c = record { told = told_take c.args.lines.now _ c.requires }
