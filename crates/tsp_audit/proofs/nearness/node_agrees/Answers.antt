use Rattle.std.proofs.Common.{sym, subst, Bool, MatchBool}
use Rattle.tsp_audit.{proofs.NearLemmas.agrees_then, specs.Agreeing.AgreesBack}
use Rattle.tsp_audit.proofs.nearness.node_agrees.Goals as goal

pub returns-then-pairs_agree : goal.returns-then-pairs_agree
returns-then-pairs_agree c header at spare all is sums =
    agrees_then header at spare c.args.node c.args.a.now c.args.states.now c.master_agrees.result (c.if-pairs_agree.ensures header at spare all is sums)
    (c.master_agrees.ensures header at spare all is sums)

pub returns-else-pairs_agree : goal.returns-else-pairs_agree
returns-else-pairs_agree c header at spare all is sums =
    subst (λ (b : Bool). MatchBool b (AgreesBack header at spare c.args.node c.args.a.now c.args.states.now)
    (AgreesBack header at spare c.args.node c.args.a.now c.args.states.now → ⊥)) (sym c.if-pairs_agree.false)
    (λ agrees. c.if-pairs_agree.ensures header at spare all is sums agrees.pairs)
