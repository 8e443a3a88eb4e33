use Rattle.std.proofs.Common.{sym}
use Rattle.tsp_history.specs.Histories.{history_of}
use Rattle.tsp_audit.proofs.TakeLemmas.{corrects_at, corrects_none}
use Rattle.tsp_audit.proofs.once.corrects.Goals as goal

pub returns-in-None : goal.returns-in-None
returns-in-None c = corrects_none (history_of c.args.lines.now) c.args.number c.in-None.ensures

pub returns-in-Some : goal.returns-in-Some
returns-in-Some c =
    corrects_at c.args.lines.now c.args.number c.in-Some.index c.index-lines-index.result c.is_correcting.result c.in-Some.ensures
    (sym c.index-lines-index.is) c.is_correcting.ensures
