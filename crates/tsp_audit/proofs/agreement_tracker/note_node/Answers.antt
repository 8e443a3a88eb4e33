use Rattle.std.proofs.Common.{◌≡◌, ◌<◌, ◌∙◌, rules, arith, ap, refl, sym, set, length, get_or}
use Rattle.std.proofs.lemmas.List.{set-get_or}
use Rattle.tsp_audit.proofs.AgreementSteps.{all-next, all-other, kept_at}
use Rattle.tsp_history.specs.Histories.{history_of, line_of}
use Rattle.tsp_audit.proofs.agreement_tracker.note_node.Goals as goal

pub returns-then-node-len-clause-nodes : goal.returns-then-node-len-clause-nodes
returns-then-node-len-clause-nodes c upto tell first all =
    let states = c.args.nodes.now.items in
    let lt : c.args.line.now.node < length states = search arith in
    let here : get_or states c.args.line.now.node c.index.result.now ≡ c.index.result.now = search rules in
    all-next (history_of c.args.before.now) (line_of c.args.line.now) states c.state_after-state.result c.args.line.now.node all refl lt
    (c.state_after-state.ensures.is upto tell first (kept_at (history_of c.args.before.now) states c.args.line.now.node c.index.result.now all lt here))

pub returns-else-node-len-clause-nodes : goal.returns-else-node-len-clause-nodes
returns-else-node-len-clause-nodes c upto tell first all =
    all-other (history_of c.args.before.now) (line_of c.args.line.now) c.args.nodes.now.items all (search arith)

pub returns-then-node-len-clause-same : goal.returns-then-node-len-clause-same
returns-then-node-len-clause-same c quiet =
    let states = c.args.nodes.now.items in
    let here : get_or states c.args.line.now.node c.index.result.now ≡ c.index.result.now = search rules in
    ap (λ s. set states c.args.line.now.node s) (c.state_after-state.ensures.same quiet ∙ sym here) ∙ set-get_or states c.args.line.now.node c.index.result.now
