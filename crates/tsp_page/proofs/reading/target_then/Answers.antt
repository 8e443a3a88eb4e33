use Rattle.std.proofs.Common.{arith, ◌≡◌, ◌-ℤ◌, w64, to_z, of_z, ap, ◌∙◌}
use Rattle.std.proofs.lemmas.Int.{ints}
use Rattle.tsp_page.proofs.reading.target_then.Goals as goal

pub returns-clause-value : goal.returns-clause-value
returns-clause-value c =
    let d = c.args.daemon.now.moved in
    let l = c.args.look.now.moved in
    let sum : to_z w64 (of_z w64 (to_z w64 (of_z w64 c.target_at.result) -ℤ to_z w64 (of_z w64 (to_z w64 (of_z w64 d) -ℤ to_z w64 (of_z w64 l))))) ≡
    c.target_at.result -ℤ (d -ℤ l) =
    omega (arith, ints, c.target_at.ensures.small, c.requires.daemon.moved, c.requires.look.moved) in
    sum ∙ ap (λ z. z -ℤ (d -ℤ l)) c.target_at.ensures.value
