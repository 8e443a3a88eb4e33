-- A value in its range is a step.
use Rattle.std.proofs.Common.{rules, ◌≡◌, true, sym, ◌∙◌, ap, ◌-ℤ◌, SFits, w64, to_z, of_z, to_z-of_z}
use Rattle.tsp_rules.specs.Guards.{is_clock_value}
use Rattle.tsp_clock.proofs.ClockLemmas.{amount_fits, stepped_high, stepped_low}
use Rattle.tsp_clock.proofs.clock.Clock.set.Goals as goal

pub overflow_sub-amount : goal.overflow_sub-amount
overflow_sub-amount c =
    let t = c.target.result in
    let fits : SFits w64 t = search rules in
    let back : to_z w64 (of_z w64 t) ≡ t = to_z-of_z fits in
    rw back (amount_fits (to_z w64 (of_z w64 c.args.value)) t c.args.tick c.requires.tick (sym c.is_clock_value.ensures ∙
    c.if-not-is_clock_value.false) c.target.ensures.low c.target.ensures.high)

pub correct-requires-clause-target : goal.correct-requires-clause-target
correct-requires-clause-target c = sym c.is_clock_value.ensures ∙ c.if-not-is_clock_value.false

pub correct-requires-clause-shown_low : goal.correct-requires-clause-shown_low
correct-requires-clause-shown_low c = stepped_low (to_z w64 (of_z w64 c.args.value)) (sym c.is_clock_value.ensures ∙ c.if-not-is_clock_value.false)

pub correct-requires-clause-shown_high : goal.correct-requires-clause-shown_high
correct-requires-clause-shown_high c = stepped_high (to_z w64 (of_z w64 c.args.value)) c.args.tick (sym c.is_clock_value.ensures ∙
    c.if-not-is_clock_value.false)

pub returns-clause-ok : goal.returns-clause-ok
returns-clause-ok c =
    let t = c.target.result in
    let fits : SFits w64 t = search rules in
    let back : to_z w64 (of_z w64 t) ≡ t = to_z-of_z fits in
    let value : to_z w64 (of_z w64 c.args.value) ≡ c.args.value = to_z-of_z c.ranges.value in
    let inside : is_clock_value c.args.value ≡ true = ap is_clock_value (sym value) ∙ sym c.is_clock_value.ensures ∙ c.if-not-is_clock_value.false in
    let sum : SFits w64 (to_z w64 (of_z w64 c.args.value) -ℤ to_z w64 (of_z w64 t)) =
    rw back (amount_fits (to_z w64 (of_z w64 c.args.value)) t c.args.tick c.requires.tick (sym c.is_clock_value.ensures ∙
    c.if-not-is_clock_value.false) c.target.ensures.low c.target.ensures.high) in (
      inside,
      (
        to_z-of_z sum ∙ ap (λ z. z -ℤ to_z w64 (of_z w64 t)) value ∙ ap (λ z. c.args.value -ℤ z) (back ∙ c.target.ensures.value),
        rw value at c.correct.ensures,
      ),
    )
