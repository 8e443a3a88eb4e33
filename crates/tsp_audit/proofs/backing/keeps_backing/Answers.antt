use Rattle.std.proofs.Common.{ℕ, arith, sym, List, take}
use Rattle.std.proofs.lemmas.List.{take-take, take_all}
use Rattle.tsp_history.specs.{Histories.history_of, declared.line.HistoryLine.HistoryLine}
use Rattle.tsp_audit.specs.Backing.{Backs}
use Rattle.tsp_audit.proofs.{BackLemmas.backs_all, BackLemmas.ends_decide, BackLemmas.settled, Prefixes.at_line, Prefixes.one-more}
use Rattle.tsp_audit.proofs.backing.keeps_backing.Goals as goal

pub loop-i-init : goal.loop-i-init
loop-i-init c old = backs_all (history_of (take c.args.from c.args.lines.now)) old.holds old.backs

pub returns-then-not-is_backing : goal.returns-then-not-is_backing
returns-then-not-is_backing c old all =
    let lines : List HistoryLine = c.args.lines.now in
    let i : ℕ = c.loop-i.i in
    let first = rw (← take-take c.args.from i lines (omega arith)) at (settled (history_of (take c.args.from lines)) old) in
    let no = rw c.if-not-is_backing.true at (c.is_backing.ensures first) in
    no (at_line Backs lines i c.index-lines-i.result (omega arith) (sym c.index-lines-i.is) (backs_all (history_of lines) all.holds all.backs))

pub loop-i-preserved : goal.loop-i-preserved
loop-i-preserved c old =
    let lines : List HistoryLine = c.args.lines.now in
    let i : ℕ = c.loop-i.i in
    let first = rw (← take-take c.args.from i lines (omega arith)) at (settled (history_of (take c.args.from lines)) old) in
    let yes = rw c.if-not-is_backing.false at (c.is_backing.ensures first) in
    one-more Backs lines i c.index-lines-i.result (omega arith) (sym c.index-lines-i.is) yes (c.loop-i.invariant old)

pub returns : goal.returns
returns c old =
    let all = rw (take_all c.loop-i.i c.args.lines.now (omega arith)) at (c.loop-i.invariant old) in
    ends_decide c.settles.result (history_of c.args.lines.now) all (c.settles.ensures (settled (history_of (take c.args.from c.args.lines.now)) old))
