use Rattle.std.proofs.Common.{rules, w64, ◌∙◌, refl}
use Rattle.std.proofs.lemmas.Int.{to_z-of_z}
use Rattle.tsp_page.proofs.reading.looked_interval.Goals as goal

pub returns : goal.returns
returns c =
    let target = to_z-of_z w64 c.target_then-target.result (search rules) in
    let low = to_z-of_z w64 c.args.look.now.low (search rules) in
    let high = to_z-of_z w64 c.args.look.now.high (search rules) in
    c.around.ensures ∙ rw (target, low, high, c.target_then-target.ensures.value, c.spread.ensures.value, c.saturating_sub-age.ensures) refl
