-- The new fields are in their ranges.
use Rattle.std.proofs.Common.{rules, ◌≡◌, arith, ap, ◌∙◌, ◌%◌, ◌+◌, pos, ◌-ℤ◌, negsuc, ◌<ℤ◌, SFits, w64, to_z, of_z, to_z-of_z}
use Rattle.std.proofs.lemmas.Int.{ints}
use Rattle.tsp_clock.proofs.ClockLemmas.{clock_value_low, clock_value_high}
use Rattle.tsp_clock.proofs.clock.Clock.correct.Goals as goal

pub invariant_of-self : goal.invariant_of-self
invariant_of-self c =
    let r = c.offset_at.result in
    let fits : SFits w64 r = search rules in
    let back : to_z w64 (of_z w64 r) ≡ r = to_z-of_z fits in
    let arg : to_z w64 (of_z w64 c.args.target) ≡ c.args.target = to_z-of_z c.ranges.target in
    let rest : to_z w64 (of_z w64 c.args.rest) ≡ c.args.rest = to_z-of_z c.ranges.rest in
    let is : r ≡ c.args.target -ℤ pos c.args.tick = c.offset_at.ensures.value ∙ ap (λ z. z -ℤ pos c.args.tick) arg in
    let low : negsuc 2147483647999999 <ℤ c.args.target = clock_value_low _ c.requires.target in
    let high : c.args.target <ℤ pos 2147483648000000 = clock_value_high _ c.requires.target in
    record {
      early = c.requires.tick;
      small = omega arith;
      low = rw back (omega (arith, ints));
      high = rw back (omega (arith, ints));
      shown_low = rw (back, rest) (omega (arith, ints));
      shown_high = rw (back, rest) (omega (arith, ints));
    }

pub returns : goal.returns
returns c =
    let r = c.offset_at.result in
    let fits : SFits w64 r = search rules in
    let back : to_z w64 (of_z w64 r) ≡ r = to_z-of_z fits in
    let arg : to_z w64 (of_z w64 c.args.target) ≡ c.args.target = to_z-of_z c.ranges.target in
    let rest : to_z w64 (of_z w64 c.args.rest) ≡ c.args.rest = to_z-of_z c.ranges.rest in
    let is : r ≡ c.args.target -ℤ pos c.args.tick = c.offset_at.ensures.value ∙ ap (λ z. z -ℤ pos c.args.tick) arg in
    rw (back, rest, is) (ap (λ n. record { offset = c.args.target -ℤ pos c.args.tick; rest = c.args.rest; at = c.args.tick; ticket = (n + 1) % 32768 })
    (ap (λ v. v.ticket) c.self.view_is))
