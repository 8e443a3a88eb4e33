-- The new offset is the old one and the amount.
use Rattle.std.proofs.Common.{rules, ◌≡◌, ◌∙◌, ap, arith, ℕ, ◌+◌, ◌%◌, ℤ, pos, ◌+ℤ◌, ◌-ℤ◌, true, SFits, w64, to_z, of_z, to_z-of_z, if◌then◌else◌}
use Rattle.std.proofs.lemmas.Int.{ints}
use Rattle.tsp_rules.specs.{ClockRows.is_step, Guards.is_clock_value}
use Rattle.tsp_clock.specs.Clocks.{target_of, slew_rest}
use Rattle.tsp_clock.proofs.clock.Clock.adjust.Goals as goal

moves : (offset amount : ℤ) (x : ℕ) → ((offset +ℤ pos x) +ℤ amount) -ℤ pos x ≡ offset +ℤ amount
moves offset amount x = omega (arith, ints)

pub returns-in-Some-clause-ok : goal.returns-in-Some-clause-ok
returns-in-Some-clause-ok c =
    let now = c.args.self.now in
    let am : to_z w64 (of_z w64 c.args.amount) ≡ c.args.amount = to_z-of_z c.ranges.amount in
    let t : to_z w64 (of_z w64 c.in-Some.target) ≡ target_of now c.args.tick +ℤ c.args.amount = search rules in
    let fits : SFits w64 c.rest_after-rest.result = search rules in
    let back : to_z w64 (of_z w64 c.rest_after-rest.result) ≡ c.rest_after-rest.result = to_z-of_z fits in
    let r : c.rest_after-rest.result ≡ (if is_step c.args.amount then pos 0 else slew_rest now c.args.tick +ℤ c.args.amount) =
    let v = c.rest_after-rest.ensures.value in rw am at v in
    let s = c.is_step.ensures in
    let inside : is_clock_value (target_of now c.args.tick +ℤ c.args.amount) ≡ true = search rules in (
      inside,
      (
        rw am at s,
        c.correct.ensures
            ∙ ap (λ z. record { offset = z; rest = to_z w64 (of_z w64 c.rest_after-rest.result); at = c.args.tick; ticket = (now.ticket + 1) % 32768 })
            (ap (λ z. z -ℤ pos c.args.tick) t ∙ moves now.offset c.args.amount c.args.tick)
            ∙ ap (λ z. record { offset = now.offset +ℤ c.args.amount; rest = z; at = c.args.tick; ticket = (now.ticket + 1) % 32768 }) (back ∙ r),
      ),
    )
