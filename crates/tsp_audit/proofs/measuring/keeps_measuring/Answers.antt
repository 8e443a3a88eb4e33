use Rattle.std.proofs.Common.{ℕ, arith, List, take, sym}
use Rattle.std.proofs.lemmas.List.{take_all}
use Rattle.tsp_history.{specs.declared.line.HistoryLine.HistoryLine, proofs.NoteLemmas.told_take, specs.Histories.history_of}
use Rattle.tsp_audit.specs.Measuring.{MeasuresAt}
use Rattle.tsp_audit.proofs.{MeasureLemmas.measures_all, MeasureLemmas.measures_part, Prefixes.at_line, Prefixes.one-more, Prefixes.timely_first}
use Rattle.tsp_audit.proofs.measuring.keeps_measuring.Goals as goal

pub loop-i-init : goal.loop-i-init
loop-i-init c setting has timely well = measures_all setting (history_of (take c.args.from c.args.lines.now)) well

pub returns-then-not-measures : goal.returns-then-not-measures
returns-then-not-measures c setting has timely well all =
    let lines : List HistoryLine = c.args.lines.now in
    let i : ℕ = c.loop-i.i in
    let bad = rw c.if-not-measures.true at (c.measures.ensures setting has (timely_first lines i timely)) in
    bad (at_line (MeasuresAt setting) lines i c.index-lines-i.result (omega arith) (sym c.index-lines-i.is) (measures_all setting (history_of lines) all))

pub loop-i-preserved : goal.loop-i-preserved
loop-i-preserved c setting has timely well =
    let lines : List HistoryLine = c.args.lines.now in
    let i : ℕ = c.loop-i.i in
    one-more (MeasuresAt setting) lines i c.index-lines-i.result (omega arith) (sym c.index-lines-i.is)
    (rw c.if-not-measures.false at (c.measures.ensures setting has (timely_first lines i timely))) (c.loop-i.invariant setting has timely well)

pub returns : goal.returns
returns c setting has timely well =
    let all = rw (take_all c.loop-i.i c.args.lines.now (omega arith)) at (c.loop-i.invariant setting has timely well) in
    measures_part setting (history_of c.args.lines.now) all

pub measures-requires-clause-told : goal.measures-requires-clause-told
measures-requires-clause-told c = told_take c.args.lines.now c.loop-i.i c.requires.told
