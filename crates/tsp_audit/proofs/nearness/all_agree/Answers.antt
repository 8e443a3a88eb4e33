use Rattle.std.proofs.Common.{◌≡◌, ℕ, subst₂, arith, inl, inr}
use Rattle.std.proofs.lemmas.Bool.{cases_lt}
use Rattle.tsp_audit.specs.{Agreeing.AgreesBack, declared.round_correction.NodeState.NodeState}
use Rattle.tsp_audit.proofs.{AgreementLemmas.here_at, AgreementLemmas.state_at, NearLemmas.all_back, NearLemmas.back_all}
use Rattle.tsp_audit.proofs.nearness.all_agree.Goals as goal

pub loop-n-preserved : goal.loop-n-preserved
loop-n-preserved c soon all n a lt at = elim (cases_lt n c.loop-n.n) [
  | inl less ↦ c.loop-n.invariant soon all n a less at
  | inr le ↦
      let states = c.args.states.now in
      let e : c.loop-n.n ≡ n = omega (arith, lt, le) in
      let kat = here_at states c.loop-n.n (omega (arith, e, at.below)) in
      subst₂ (λ (j : ℕ) (s : NodeState). AgreesBack c.args.header.now c.args.at c.args.spare j s states) e (state_at states c.loop-n.n n a at e)
      (c.if-not-node_agrees.ensures c.args.header.now c.args.at c.args.spare (c.standings-stand.ensures soon) kat all)
]

pub returns : goal.returns
returns c soon all = all_back c.args.header.now c.args.at c.args.spare c.args.states.now (λ n a lt at. c.loop-n.invariant soon all n a (omega arith) at)

pub returns-then-not-node_agrees : goal.returns-then-not-node_agrees
returns-then-not-node_agrees c soon all agrees =
    let kat = here_at c.args.states.now c.loop-n.n (omega arith) in
    c.if-not-node_agrees.ensures c.args.header.now c.args.at c.args.spare (c.standings-stand.ensures soon) kat all
    (back_all c.args.header.now c.args.at c.args.spare c.loop-n.n _ c.args.states.now (agrees c.loop-n.n _ kat))
