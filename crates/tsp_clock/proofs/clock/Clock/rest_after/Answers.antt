-- What is shown steps to the new target, or stays.
use Rattle.std.proofs.Common.{rules, ◌≡◌, true, false, refl, sym, ◌∙◌, ap, ◌+ℤ◌, SFits, w64, to_z, of_z, to_z-of_z}
use Rattle.tsp_rules.specs.ClockRows.{is_step}
use Rattle.tsp_clock.specs.Clocks.{target_of, slew_rest}
use Rattle.tsp_clock.proofs.ClockLemmas.{left_fits, shown_kept, stepped_high, stepped_low}
use Rattle.tsp_clock.proofs.clock.Clock.rest_after.Goals as goal

-- the rest and the amount, as the code adds them
pub overflow_add-result : goal.overflow_add-result
overflow_add-result c =
    let now = c.args.self.now in
    let x = c.args.tick in
    let fits : SFits w64 c.rest.result = search rules in
    let back : to_z w64 (of_z w64 c.rest.result) ≡ c.rest.result = to_z-of_z fits in
    let arg : to_z w64 (of_z w64 c.args.amount) ≡ c.args.amount = to_z-of_z c.ranges.amount in
    rw (back, arg, c.rest.ensures.value) (left_fits (target_of now x) (slew_rest now x) c.args.amount x c.requires.tick c.requires.range c.rest.ensures.low
    c.rest.ensures.high)

pub returns-then-is_step : goal.returns-then-is_step
returns-then-is_step c =
    let arg : to_z w64 (of_z w64 c.args.amount) ≡ c.args.amount = to_z-of_z c.ranges.amount in
    let test : is_step c.args.amount ≡ true = ap is_step (sym arg) ∙ sym c.is_step.ensures ∙ c.if-is_step.true in
    record {
      value = rw test refl;
      low = stepped_low (target_of c.args.self.now c.args.tick +ℤ c.args.amount) c.requires.range;
      high = stepped_high (target_of c.args.self.now c.args.tick +ℤ c.args.amount) c.args.tick c.requires.range;
    }

-- what is shown after it is what was shown before
pub returns-else-is_step : goal.returns-else-is_step
returns-else-is_step c =
    let arg : to_z w64 (of_z w64 c.args.amount) ≡ c.args.amount = to_z-of_z c.ranges.amount in
    let test : is_step c.args.amount ≡ false = ap is_step (sym arg) ∙ sym c.is_step.ensures ∙ c.if-is_step.false in
    let fits : SFits w64 c.rest.result = search rules in
    let back : to_z w64 (of_z w64 c.rest.result) ≡ c.rest.result = to_z-of_z fits in
    let sum = overflow_add-result c in
    record {
      value = rw test (to_z-of_z sum ∙ ap (λ z. z +ℤ to_z w64 (of_z w64 c.args.amount)) (back ∙ c.rest.ensures.value) ∙ ap
          (λ z. slew_rest c.args.self.now c.args.tick +ℤ z) arg);
      low = rw (
        to_z-of_z sum,
        back,
        arg,
        c.rest.ensures.value,
        shown_kept (target_of c.args.self.now c.args.tick) (slew_rest c.args.self.now c.args.tick)
            c.args.amount,
      ) c.rest.ensures.low;
      high = rw (
        to_z-of_z sum,
        back,
        arg,
        c.rest.ensures.value,
        shown_kept (target_of c.args.self.now c.args.tick) (slew_rest c.args.self.now c.args.tick)
            c.args.amount,
      ) c.rest.ensures.high;
    }
