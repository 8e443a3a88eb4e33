use Rattle.std.proofs.Common.{subst, refl, arith, inl, inr}
use Rattle.std.proofs.lemmas.Bool.{cases_lt}
use Rattle.tsp_audit.{proofs.AgreementLemmas.state_at, specs.Agreeing.IsReadBy, specs.declared.round_correction.NodeState.NodeState}
use Rattle.tsp_audit.proofs.nearness.all_past.Goals as goal

pub loop-n-preserved : goal.loop-n-preserved
loop-n-preserved c n a lt at = elim (cases_lt n c.loop-n.n) [
  | inl less ↦ c.loop-n.invariant n a less at
  | inr le ↦
      subst (λ (s : NodeState). IsReadBy c.args.at s) (state_at c.args.states.now c.loop-n.n n a at (omega (arith, lt, le))) (c.if-not-is_past.ensures refl)
]

pub returns : goal.returns
returns c all n a at = c.loop-n.invariant n a (omega (arith, at.below)) at
