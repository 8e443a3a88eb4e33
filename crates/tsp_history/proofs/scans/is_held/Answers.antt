use Rattle.std.proofs.Common.{◌≡◌, ◌∙◌, ◌∷◌, ◌+◌, ap, arith, sym, rules, subst, drop, get_or, List}
use Rattle.std.proofs.lemmas.List.{at_drop_all, drop_more}
use Rattle.tsp_promises.specs.Everywhere.{Everywhere}
use Rattle.tsp_history.specs.{Histories.line_of, Histories.noted_after, Holding.HoldsApart, declared.line.HistoryLine.HistoryLine}
use Rattle.tsp_history.proofs.HistoryLemmas.{Everywhere_before}
use Rattle.tsp_history.proofs.scans.is_held.Goals as goal

pub returns-then-not-is_apart : goal.returns-then-not-is_apart
returns-then-not-is_apart c all =
    let inv = c.loop-line.invariant in
    let i = c.loop-line.line-index in
    let item : HistoryLine = c.line-item.result in
    let item_is : get_or c.args.lines.now i item ≡ item = search rules in
    let rest : List HistoryLine = drop (i + 1) c.args.lines.now in
    let here : noted_after inv.0 (drop i c.args.lines.now) ≡ noted_after (line_of item ∷ inv.0) rest =
    ap (λ ns. noted_after inv.0 ns) (drop_more c.args.lines.now i item (search rules)) ∙ ap (λ n. noted_after (line_of n ∷ inv.0) rest) item_is in
    let long = subst (λ h. Everywhere (λ other older. HoldsApart c.args.node c.args.port c.args.tick c.args.p other) h) (sym (sym here ∙ inv.2)) all in
    let bad = (Everywhere_before (λ other older. HoldsApart c.args.node c.args.port c.args.tick c.args.p other) (line_of item ∷ inv.0) rest long).0 in
    let no : HoldsApart c.args.node c.args.port c.args.tick c.args.p (line_of item) → ⊥ = search rules in
    no bad

pub returns : goal.returns
returns c =
    let inv = c.loop-line.invariant in
    subst (λ h. Everywhere (λ other older. HoldsApart c.args.node c.args.port c.args.tick c.args.p other) h)
    (sym (at_drop_all (λ ns. noted_after inv.0 ns) c.args.lines.now c.loop-line.line-index (search arith)) ∙ inv.2) inv.1
