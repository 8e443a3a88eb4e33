use Rattle.std.proofs.Common.{rules, arith, ◌≡◌, pos, ◌+ℤ◌, w64, to_z, of_z, ap, ◌∙◌}
use Rattle.std.proofs.lemmas.Int.{ints, to_z-of_z}
use Rattle.tsp_page.specs.Formula.{elapsed, gained}
use Rattle.tsp_page.proofs.daemon_half.DaemonHalf.tick_at.Goals as goal

pub returns-clause-value : goal.returns-clause-value
returns-clause-value c =
    let h = c.args.self.now in
    let rate = to_z-of_z w64 h.rate (search rules) in
    let time = to_z-of_z w64 c.elapsed-elapsed.result (search rules) ∙ c.elapsed-elapsed.ensures.value in
    let gain : c.gained.result ≡ gained h.rate (elapsed h c.args.now) =
    c.gained.ensures.value ∙ (ap (λ z. gained z (to_z w64 (of_z w64 c.elapsed-elapsed.result))) rate ∙ ap (λ z. gained h.rate z) time) in
    let sum : to_z w64 (of_z w64 (to_z w64 (of_z w64 (to_z w64 h.origin_tick +ℤ to_z w64 (of_z w64 c.elapsed-elapsed.result))) +ℤ to_z w64 (of_z w64
    c.gained.result)))
    ≡ (pos h.origin_tick +ℤ c.elapsed-elapsed.result) +ℤ c.gained.result =
    omega (arith, ints, c.requires.sound.count.origin_tick, c.elapsed-elapsed.ensures.small, c.gained.ensures.small) in
    sum ∙ (ap (λ z. (pos h.origin_tick +ℤ z) +ℤ c.gained.result) c.elapsed-elapsed.ensures.value ∙ ap (λ z. (pos h.origin_tick +ℤ elapsed h
    c.args.now) +ℤ z) gain)
