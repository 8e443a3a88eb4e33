use Rattle.std.proofs.Common.{◌+◌, sym, subst, List}
use Rattle.tsp_audit.{proofs.AgreementSteps.blank_more, specs.Agreeing.AreBlank, specs.declared.round_correction.NodeState.NodeState}
use Rattle.tsp_audit.proofs.agreement_tracker.blanks.Goals as goal

pub loop-preserved : goal.loop-preserved
loop-preserved c = subst (λ (t : List NodeState). AreBlank (c.loop.counter + 1) t) (sym c.in_ok-push.ensures.items)
    (blank_more c.loop.counter c.loop.states.items c.blank.result c.loop.invariant c.blank.ensures)
