use Rattle.std.proofs.Common.{◌≡◌, ℕ, subst₂, arith, inl, inr, get_or}
use Rattle.std.proofs.lemmas.Bool.{cases_lt}
use Rattle.tsp_audit.specs.{Agreeing.IsAtPlace, Agreeing.PairAgrees, declared.round_correction.NodeState.NodeState}
use Rattle.tsp_audit.proofs.{AgreementLemmas.here_at, AgreementLemmas.no_state, AgreementLemmas.state_at}
use Rattle.tsp_audit.proofs.nearness.pairs_agree.Goals as goal

pub loop-k-preserved : goal.loop-k-preserved
loop-k-preserved c header at spare all is sums k b lt le-node kat = elim (cases_lt k c.loop-k.k) [
  | inl less ↦ c.loop-k.invariant header at spare all is sums k b less le-node kat
  | inr le ↦
      let e : c.loop-k.k ≡ k = omega (arith, lt, le) in
      let there : IsAtPlace c.args.states.now c.loop-k.k (get_or c.args.states.now c.loop-k.k no_state) = here_at _ _ (omega (arith, e, kat.below)) in
      let mine = rw (← c.index-stand-node.is) at (all c.args.node c.args.a.now c.index-stand-node.result is (omega (arith, is.below, c.requires.many))) in
      let theirs = rw (← c.index-stand-k.is) at (all c.loop-k.k _ c.index-stand-k.result there (omega (arith, there.below, c.requires.many))) in
      subst₂ (λ (j : ℕ) (s : NodeState). PairAgrees header at spare c.args.node c.args.a.now j s) e (state_at c.args.states.now c.loop-k.k k b kat e)
      (c.if-not-pair_agrees.ensures header at spare c.args.node c.loop-k.k mine theirs (sums c.args.node c.args.a.now is) (sums c.loop-k.k _ there))
]

pub returns-then-not-pair_agrees : goal.returns-then-not-pair_agrees
returns-then-not-pair_agrees c header at spare all is sums agrees =
    let kat : IsAtPlace c.args.states.now c.loop-k.k (get_or c.args.states.now c.loop-k.k no_state) = here_at _ _ (omega (arith, is.below)) in
    let mine = rw (← c.index-stand-node.is) at (all c.args.node c.args.a.now c.index-stand-node.result is (omega (arith, is.below, c.requires.many))) in
    let theirs = rw (← c.index-stand-k.is) at (all c.loop-k.k _ c.index-stand-k.result kat (omega (arith, kat.below, c.requires.many))) in
    c.if-not-pair_agrees.ensures header at spare c.args.node c.loop-k.k mine theirs (sums c.args.node c.args.a.now is) (sums c.loop-k.k _ kat)
    (agrees c.loop-k.k _ (omega arith) kat)
