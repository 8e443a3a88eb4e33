use Rattle.std.proofs.Common.{◌≡◌, ◌≤ℤ◌, ◌∙◌, ◌+ℤ◌, ◌-ℤ◌, ◌-◌, ap, rules, subst, to_z, of_z, ℤ, MatchBool}
use Rattle.std.specs.Int.{w128}
use Rattle.tsp_audit.{proofs.NearLemmas.span_told, specs.Agreeing.err_less, specs.Agreeing.shown_by, specs.Standings.reach_at}
use Rattle.tsp_base.specs.Words.{width}
use Rattle.tsp_audit.proofs.nearness.master_near.Goals as goal

pub returns : goal.returns
returns c a b x ac header at spare node own other fsum ssum =
    let low : ℤ = to_z w128 (of_z w128 c.args.own.now.low) in
    let high : ℤ = to_z w128 (of_z w128 c.args.own.now.high) in
    let same-low : low ≡ c.args.own.now.low = search rules in
    let same-high : high ≡ c.args.own.now.high = search rules in
    let same : to_z w128 (of_z w128 c.args.other.now.clock) ≡ c.args.other.now.clock = search rules in
    span_told c.is_met.result (shown_by header node a.moved at) (shown_by header x.master b.moved at) (err_less spare x) _ _ (width header.drift (at - x.at))
    (same-low ∙ (own.low_is x ac ∙ ap (λ (z : ℤ). z -ℤ reach_at header at spare x) (own.clock_is fsum))) (same-high ∙
    (own.high_is x ac ∙ ap (λ (z : ℤ). z +ℤ reach_at header at spare x) (own.clock_is fsum)))
    (subst (λ (z : ℤ). MatchBool c.is_met.result ((low ≤ℤ z) × (z ≤ℤ high)) ((low ≤ℤ z) × (z ≤ℤ high) → ⊥)) (same ∙ other.clock_is ssum) c.is_met.ensures)
