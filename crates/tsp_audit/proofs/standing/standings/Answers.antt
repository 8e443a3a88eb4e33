use Rattle.std.proofs.Common.{◌≡◌, ◌<◌, ℕ, sym, subst, subst₂, arith, inl, inr, get_or, length, set, List, ◌∙◌, ap}
use Rattle.std.proofs.lemmas.{Bool.cases_lt, List.get_or-set_other, List.get_or-set_same, List.length-set}
use Rattle.tsp_audit.specs.{Standings.StandsAs, declared.round_correction.NodeState.NodeState, declared.shown.Standing.Standing}
use Rattle.tsp_audit.proofs.AgreementLemmas.{no_state, state_at}
use Rattle.tsp_audit.proofs.standing.standings.Goals as goal

pub loop-node-preserved : goal.loop-node-preserved
loop-node-preserved c soon k a s lt kat below =
    let old : List Standing = c.loop-node.stand in
    let i : ℕ = c.loop-node.node in
    let short : k < length old = omega (arith, below, length-set old i c.stand_of.result) in
    elim (cases_lt k i) [
      | inl less ↦
          let other : k ≡ i → ⊥ = λ e. omega (arith, e, less) in
          subst (λ (u : Standing). StandsAs c.args.header.now c.args.at c.args.spare k a u) (sym (get_or-set_other old i k c.stand_of.result s other))
          (c.loop-node.invariant soon k a s less kat short)
      | inr le ↦
          let e : i ≡ k = omega (arith, lt, le) in
          let here : get_or c.args.states.now i no_state ≡ a = state_at c.args.states.now i k a kat e in
          let new : c.stand_of.result ≡ get_or (set old i c.stand_of.result) k s = sym (ap (λ (j : ℕ). get_or (set old i c.stand_of.result) j s) (sym e) ∙
          get_or-set_same old i c.stand_of.result s (omega (arith, e, short))) in
          subst₂ (λ (b : NodeState) (u : Standing). StandsAs c.args.header.now c.args.at c.args.spare k b u) here new
          (subst (λ (j : ℕ). StandsAs c.args.header.now c.args.at c.args.spare j (get_or c.args.states.now i no_state) c.stand_of.result) e
          (c.stand_of.ensures soon))
    ]

pub returns : goal.returns
returns c soon k a s kat below = c.loop-node.invariant soon k a s (omega (arith, kat.below)) kat below
