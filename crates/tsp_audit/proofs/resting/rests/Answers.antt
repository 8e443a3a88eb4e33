use Rattle.std.proofs.Common.{◌≡◌, ap, rules, subst, true}
use Rattle.tsp_rules.specs.Values.{Post, Message, AdjTime, Place, Peer}
use Rattle.tsp_base.specs.Words.{Acts, of, view, acting, MessageValue}
use Rattle.tsp_history.specs.{HeldActs.held_message, Histories.deed_of, Histories.history_of, Histories.line_of}
use Rattle.tsp_audit.proofs.AgreementSteps.{rests-told}
use Rattle.tsp_audit.proofs.resting.rests.Goals as goal

pub returns-else-not-is_acting : goal.returns-else-not-is_acting
returns-else-not-is_acting c tell =
    let o = c.in-PostMessage-Peer-default-default-default in
    let m : MessageValue = held_message o.kind o.field-2 o.field-3 o.ensures.act.0 in
    let posts : (line_of c.args.line.now).did.deed ≡ Acts (Post o.field-0 (Message m)) = ap deed_of o.ensures.act.1 in
    let deed : (line_of c.args.line.now).did.deed ≡ Acts (Post (Peer o.p) (Message m)) = subst (λ (to : Place). (line_of c.args.line.now).did.deed ≡
    Acts (Post to (Message m))) o.field-0-is posts in
    let kind : m.kind ≡ AdjTime = search rules in
    let act : acting (view c.args.line.now.port (of c.args.line.now.node (history_of c.args.lines.now))) ≡ true = search rules in
    rests-told (line_of c.args.line.now) (view c.args.line.now.port (of c.args.line.now.node (history_of c.args.lines.now))) o.p m c.has_sample.result deed kind
    act (c.has_sample.ensures tell)
