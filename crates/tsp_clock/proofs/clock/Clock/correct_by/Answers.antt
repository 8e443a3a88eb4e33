-- The act tells what is shown right after.
use Rattle.std.proofs.Common.{rules, ◌≡◌, refl, ◌∙◌, ap, ◌+ℤ◌, SFits, w64, to_z, of_z, to_z-of_z, le_refl, if◌then◌else◌}
use Rattle.tsp_base.{proofs.FrameLemmas.PutsExactly_put, specs.Words.plain, specs.Words.target, specs.Words.shown}
use Rattle.tsp_rules.specs.ClockRows.{adjusts, is_step}
use Rattle.tsp_clock.specs.Clocks.{target_of, shown_of, adjusted}
use Rattle.tsp_clock.proofs.ClockLemmas.{Stands_adjusts, shown_adjusted}
use Rattle.tsp_clock.proofs.clock.Clock.correct_by.Goals as goal

pub returns : goal.returns
unfolding adjusts
returns g c = record {
  row =
      let now = c.args.self.now in
      let x = c.args.tick in
      let amount = c.args.amount in
      let back : to_z w64 (of_z w64 amount) ≡ amount = to_z-of_z c.ranges.amount in
      let s = c.shown-shown.result in
      let fits : SFits w64 s = search rules in
      let shown_back : to_z w64 (of_z w64 s) ≡ s = to_z-of_z fits in
      let clock : c.adjust_in_range-stepped.new.self ≡ adjusted now x amount = let e = c.adjust_in_range-stepped.ensures.clock in rw back at e in
      let stepped : c.adjust_in_range-stepped.result ≡ is_step amount = let e = c.adjust_in_range-stepped.ensures.stepped in rw back at e in
      let is : s ≡ (if is_step amount then target_of now x +ℤ amount else shown_of now x) = c.shown-shown.ensures ∙ ap (λ v. shown_of v x) clock ∙
      shown_adjusted now x amount in
      let put = c.put.ensures.acts in
      record {
        acts = λ past h.
            let o = h.offset_is in
            let r = h.rest_is in
            let a = h.at_is in
            let told : (if is_step amount then target_of now x +ℤ amount else shown_of now x) ≡
            (if is_step amount then target (plain past.seen) x +ℤ amount else shown (plain past.seen) x) = rw (o, r, a) refl in
            rw (back, stepped, shown_back, is, told) at put;
        stands = λ past h. rw clock (Stands_adjusts amount x past now h);
      };
  clock =
      let back : to_z w64 (of_z w64 c.args.amount) ≡ c.args.amount = to_z-of_z c.ranges.amount in
      rw back at c.adjust_in_range-stepped.ensures.clock;
  room = PutsExactly_put _ c.put.ensures.spare c.put.ensures.acts;
}

pub adjust_in_range-stepped-requires-clause-range : goal.adjust_in_range-stepped-requires-clause-range
adjust_in_range-stepped-requires-clause-range g c =
    let back : to_z w64 (of_z w64 c.args.amount) ≡ c.args.amount = to_z-of_z c.ranges.amount in
    rw back c.requires.range

pub shown-shown-requires-clause-later : goal.shown-shown-requires-clause-later
shown-shown-requires-clause-later g c = rw c.adjust_in_range-stepped.ensures.clock (le_refl c.args.tick)
