use Rattle.std.proofs.Common.{sym, rules, arith, take}
use Rattle.tsp_promises.specs.OnlyMaster.{LeadsAt}
use Rattle.tsp_history.specs.{Histories.line_of, Histories.history_of, declared.line.HistoryLine.HistoryLine}
use Rattle.tsp_audit.proofs.Prefixes.{at_line, one-more}
use Rattle.tsp_history.proofs.NoteLemmas.{told_take}
use Rattle.tsp_audit.proofs.leading.keeps_leading.Goals as goal

pub returns-then-not-leads : goal.returns-then-not-leads
returns-then-not-leads c old all =
    let n : HistoryLine = c.index-lines-i.result in
    let no : LeadsAt (line_of n) (history_of (take c.loop-i.i c.args.lines.now)) → ⊥ = search rules in
    no (at_line LeadsAt c.args.lines.now c.loop-i.i n (omega arith) (sym c.index-lines-i.is) all)

pub loop-i-preserved : goal.loop-i-preserved
loop-i-preserved c old =
    one-more LeadsAt c.args.lines.now c.loop-i.i c.index-lines-i.result (omega arith) (sym c.index-lines-i.is) (search rules) (c.loop-i.invariant old)

pub leads-requires : goal.leads-requires
leads-requires c = told_take c.args.lines.now c.loop-i.i c.requires.told
