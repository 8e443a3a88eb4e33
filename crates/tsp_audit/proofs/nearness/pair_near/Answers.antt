use Rattle.std.proofs.Common.{◌≡◌, ◌∙◌, ◌+ℤ◌, ◌-ℤ◌, ◌-◌, ap, rules, to_z, of_z, ℤ}
use Rattle.std.specs.Int.{w128}
use Rattle.tsp_audit.{proofs.NearLemmas.spans_told, specs.Agreeing.err_less, specs.Agreeing.shown_by, specs.Standings.reach_at}
use Rattle.tsp_base.specs.Words.{width}
use Rattle.tsp_audit.proofs.nearness.pair_near.Goals as goal

pub returns : goal.returns
returns c a b x y ac bd header at spare first second own other fsum ssum =
    let same-al : to_z w128 (of_z w128 c.args.own.now.low) ≡ c.args.own.now.low = search rules in
    let same-ah : to_z w128 (of_z w128 c.args.own.now.high) ≡ c.args.own.now.high = search rules in
    let same-bl : to_z w128 (of_z w128 c.args.other.now.low) ≡ c.args.other.now.low = search rules in
    let same-bh : to_z w128 (of_z w128 c.args.other.now.high) ≡ c.args.other.now.high = search rules in
    spans_told c.is_met.result (shown_by header first a.moved at) (shown_by header second b.moved at) (err_less spare x) (err_less spare y) _ _ _ _
    (width header.drift (at - x.at)) (width header.drift (at - y.at))
    (same-al ∙ (own.low_is x ac ∙ ap (λ (z : ℤ). z -ℤ reach_at header at spare x) (own.clock_is fsum))) (same-ah ∙
    (own.high_is x ac ∙ ap (λ (z : ℤ). z +ℤ reach_at header at spare x) (own.clock_is fsum)))
    (same-bl ∙ (other.low_is y bd ∙ ap (λ (z : ℤ). z -ℤ reach_at header at spare y) (other.clock_is ssum))) (same-bh ∙
    (other.high_is y bd ∙ ap (λ (z : ℤ). z +ℤ reach_at header at spare y) (other.clock_is ssum)))
    c.is_met.ensures
