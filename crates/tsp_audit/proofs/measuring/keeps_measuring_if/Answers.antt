use Rattle.std.proofs.Common.{rules, take}
use Rattle.tsp_audit.{proofs.MeasureLemmas.if_both, specs.Parts.MeasuresWell}
use Rattle.tsp_history.specs.Histories.{history_of}
use Rattle.tsp_audit.proofs.measuring.keeps_measuring_if.Goals as goal

pub returns-then-premises-2 : goal.returns-then-premises-2
returns-then-premises-2 c setting has timely old =
    let lines = c.args.lines.now in
    if_both c.keeps_measuring.result c.args.premises.honest c.args.premises.words (MeasuresWell setting (history_of lines))
    (MeasuresWell setting (history_of (take c.args.from lines))) (search rules) (search rules) (c.keeps_measuring.ensures setting has timely) old
