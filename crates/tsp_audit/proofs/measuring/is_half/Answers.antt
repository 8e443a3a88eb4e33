use Rattle.std.proofs.Common.{◌≡◌, ◌∙◌, ◌-ℤ◌, ℤ, ap, rules, subst₂, to_z, of_z, MatchBool}
use Rattle.std.specs.Int.{w64, w128}
use Rattle.tsp_base.specs.Words.{half_up}
use Rattle.tsp_audit.proofs.measuring.is_half.Goals as goal

pub returns : goal.returns
returns c =
    let gap : to_z w128 (of_z w128 c.gap.result) ≡ c.args.now -ℤ c.args.start = search rules in
    let half : to_z w128 (of_z w128 c.half_up.result) ≡ c.half_up.result = search rules in
    let err : to_z w64 (of_z w64 c.args.err) ≡ c.args.err = search rules in
    subst₂ (λ (e t : ℤ). MatchBool c.is_same.result (e ≡ t) (e ≡ t → ⊥)) err (half ∙ (c.half_up.ensures ∙ ap half_up gap)) c.is_same.ensures
