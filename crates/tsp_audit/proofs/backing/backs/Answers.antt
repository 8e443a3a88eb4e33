use Rattle.std.proofs.Common.{◌≡◌, ap, sym, ◌∙◌, List}
use Rattle.tsp_base.specs.Words.{Acts, Deed, Line, of, view}
use Rattle.tsp_promises.specs.StepFacts.{backed, is_unbacked}
use Rattle.tsp_history.specs.{Histories.deed_of, Histories.line_of, Histories.history_of, declared.line.HistoryLine.HistoryLine}
use Rattle.tsp_audit.{proofs.AgreementSteps.act_some, proofs.BackLemmas.votes_decide, specs.Backing.deed_backs}
use Rattle.tsp_audit.proofs.backing.backs.Goals as goal

pub returns-else-is_mark : goal.returns-else-is_mark
returns-else-is_mark c old =
    let line : HistoryLine = c.args.line.now in
    let before : List Line = history_of c.args.lines.now in
    let act = act_some line.act (sym c.is_mark.ensures ∙ c.if-is_mark.false) in
    let deed : deed_of line.act ≡ Acts act.0 = act.1 in
    votes_decide c.votes.result (line_of line) before act.0 deed
    (c.votes.ensures ∙ ap (λ (d : Deed). deed_backs d (backed (view line.port (of line.node before))) (is_unbacked (view line.port (of line.node before))))
    deed)
