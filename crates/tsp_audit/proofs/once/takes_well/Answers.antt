use Rattle.std.proofs.Common.{◌∙◌, sym}
use Rattle.tsp_history.specs.Histories.{history_of, line_of}
use Rattle.tsp_audit.proofs.ActLemmas.{once_decides, takes-well}
use Rattle.tsp_audit.proofs.once.takes_well.Goals as goal

pub returns-then-not-is_new : goal.returns-then-not-is_new
returns-then-not-is_new c a t w =
    let decides = once_decides (line_of c.args.line.now) (history_of c.args.lines.now) c.args.acted.now c.args.send a t in
    let bad = rw (sym c.is_new.ensures ∙ c.if-not-is_new.true) at decides in
    bad w.taken

pub returns : goal.returns
returns c a t =
    let decides = once_decides (line_of c.args.line.now) (history_of c.args.lines.now) c.args.acted.now c.args.send a t in
    takes-well (line_of c.args.line.now) (history_of c.args.lines.now) c.confirms.result (rw (sym c.is_new.ensures ∙ c.if-not-is_new.false) at decides)
    (c.confirms.ensures a)
