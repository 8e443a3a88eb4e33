-- The act's amount is from the target to the value.
use Rattle.std.proofs.Common.{rules, ◌≡◌, ap, pos, ◌+ℤ◌, ◌-ℤ◌, SFits, w64, to_z, of_z, to_z-of_z}
use Rattle.tsp_base.{proofs.FrameLemmas.PutsExactly_put, specs.Words.plain, specs.Words.target}
use Rattle.tsp_rules.specs.ClockRows.{sets}
use Rattle.tsp_clock.{proofs.ClockLemmas.Stands_sets, specs.Clocks.target_of}
use Rattle.tsp_clock.proofs.clock.Clock.correct_to.Goals as goal

pub set_in_range-amount-requires-clause-range : goal.set_in_range-amount-requires-clause-range
set_in_range-amount-requires-clause-range g c =
    let value : to_z w64 (of_z w64 c.args.value) ≡ c.args.value = to_z-of_z c.ranges.value in
    rw value c.requires.range

pub returns : goal.returns
unfolding sets
returns g c =
    let now = c.args.self.now in
    let a = c.set_in_range-amount.result in
    let value : to_z w64 (of_z w64 c.args.value) ≡ c.args.value = to_z-of_z c.ranges.value in
    let fits : SFits w64 a = search rules in
    let back : to_z w64 (of_z w64 a) ≡ a = to_z-of_z fits in
    let is : a ≡ c.args.value -ℤ target_of now c.args.tick = let e = c.set_in_range-amount.ensures.amount in rw value at e in
    let clock = c.set_in_range-amount.ensures.clock in
    let put = c.put.ensures.acts in
    record {
      row = record {
        acts = λ past h.
            let t : target_of now c.args.tick ≡ target (plain past.seen) c.args.tick = ap (λ o. o +ℤ pos c.args.tick) h.offset_is in
            rw (back, is, t, value) at put;
        stands = λ past h. rw (rw value at clock) (Stands_sets c.args.value c.args.tick past now h);
      };
      clock = rw value at c.set_in_range-amount.ensures.clock;
      room = PutsExactly_put _ c.put.ensures.spare c.put.ensures.acts;
    }
