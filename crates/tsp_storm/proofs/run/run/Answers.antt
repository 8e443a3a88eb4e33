-- Each event more adds its acts, and the whole schedule its summary.
use Rattle.std.proofs.Common.{◌≡◌, ℕ, ◌∙◌, ◌+◌, ap, arith, subst, add-one, suc}
use Rattle.tsp_storm.specs.{Schedules.header_of, Schedules.storm_events, Summaries.CountsLines}
use Rattle.tsp_storm.proofs.Tallies.{counted_more, sums_up}
use Rattle.tsp_storm.proofs.run.run.Goals as goal
use Rattle.tsp_run.specs.Run.{told, gained}

pub loop-preserved : goal.loop-preserved
loop-preserved c =
    let s = c.args.words.now in
    let stands = c.in-Ok-step.ensures.stands in
    let given : c.step.new.self.storm.given ≡ c.loop.counter + 1 = c.in-Ok-step.ensures.given ∙ ap (λ (n : ℕ). n + 1) c.loop.invariant.given in
    let lines : c.acts.result.now ≡ gained (header_of s) (storm_events s (c.loop.counter + 1)) = c.acts.ensures ∙ stands.world.lines ∙
    ap (λ (n : ℕ). gained (header_of s) (storm_events s n)) given in
    let next : c.acts.result.now ≡ gained (header_of s) (storm_events s (suc c.loop.counter)) = rw add-one at lines in
    let counted = counted_more s c.loop.counter c.loop.counts c.add_all.new.self c.acts.result.now c.loop.invariant.counted next c.add_all.ensures.took
    c.add_all.ensures.corrects c.add_all.ensures.masters in
    record {
      stands = stands;
      given = given;
      counted = rw add-one counted;
      few_took = omega arith;
      few_corrects = omega arith;
      few_masters = omega arith;
    }

pub returns : goal.returns
returns c =
    let s = c.args.words.now in
    let all : c.loop.counter ≡ s.events = (let low = c.loop-test.false in let high = c.loop.auto.counter-end in omega (arith, low, high)) in
    sums_up s c.loop.making c.posted.result c.loop.counts c.loop.invariant.stands (c.loop.invariant.given ∙
    all) c.posted.ensures (subst (λ n. CountsLines (told (header_of s) (storm_events s n)) c.loop.counts) all c.loop.invariant.counted)
