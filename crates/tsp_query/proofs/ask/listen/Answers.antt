use Rattle.std.proofs.Common.{◌≡◌, ◌∙◌, refl, ap, arith, ◌+◌, ◌-◌, ◌≤◌}
use Rattle.tsp_query.specs.{Arrivals.asked_from, Clocks.tick_given, Ends.heard_times, Ends.receives}
use Rattle.tsp_query.proofs.AskLemmas.{after_reading, after_next, asked_step, asked_hit, asked_none, receives_least, tells_all, no_wait, one_wait}
use Rattle.tsp_query.proofs.ask.listen.Goals as goal

pub loop-init : goal.loop-init
loop-init g c = ((λ o t. (t, refl)), refl, refl, omega arith, no_wait _, refl, refl)

pub returns-in-Answer-clause-listens : goal.returns-in-Answer-clause-listens
returns-in-Answer-clause-listens g c = λ o t.
    let i = c.loop.counter in
    let before = c.loop.invariant.0 o t in
    let here = c.in-Answer.ensures.hears (heard_times i o) before.0 in
    let zero : i + 0 ≡ i = omega arith in
    let tick = here.2 ∙ (here.0.last_is ∙ (after_reading i o 0 ∙ ap (λ k. tick_given o.last o.readings k) zero)) in
    let first = before.1 ∙ asked_hit c.args.question i (heard_times i o).arrivals c.in-Answer.answer c.loop-test.true here.1 in
    (i, first, tick, rw (after_next i o) here.0)

pub returns-in-Answer-clause-waits : goal.returns-in-Answer-clause-waits
returns-in-Answer-clause-waits g c = one_wait _ _ _ c.loop.invariant.4 c.in-Answer.ensures.waits

pub returns-in-Failed-clause-listens : goal.returns-in-Failed-clause-listens
returns-in-Failed-clause-listens g c = λ o t.
    let i = c.loop.counter in
    let before = c.loop.invariant.0 o t in
    let here = c.in-Failed.ensures.hears (heard_times i o) before.0 in
    let least : i + 1 ≤ receives (asked_from c.args.question i (8 - i) (heard_times i o).arrivals) =
    receives_least c.args.question i (heard_times i o).arrivals c.loop-test.true in
    (i, rw before.1 (omega (arith, least)), here)

pub returns-in-Failed-clause-waits : goal.returns-in-Failed-clause-waits
returns-in-Failed-clause-waits g c = one_wait _ _ _ c.loop.invariant.4 c.in-Failed.ensures.waits

pub loop-preserved : goal.loop-preserved
loop-preserved g c = (
  (λ o t.
      let i = c.loop.counter in
      let before = c.loop.invariant.0 o t in
      let here = c.in-Other.ensures.hears (heard_times i o) before.0 in
      rw (after_next i o) (here.0, before.1 ∙ asked_step c.args.question i (heard_times i o).arrivals c.loop-test.true here.1)),
  c.in-Other.ensures.faults.still (λ e. cc) ∙ c.loop.invariant.1,
  c.in-Other.ensures.sends ∙ c.loop.invariant.2,
  omega arith,
  one_wait _ _ _ c.loop.invariant.4 c.in-Other.ensures.waits,
  c.in-Other.ensures.keeps.binds ∙ c.loop.invariant.5,
  c.in-Other.ensures.keeps.walled ∙ c.loop.invariant.6,
)

pub returns-clause-listens : goal.returns-clause-listens
returns-clause-listens g c = λ o t.
    let i = c.loop.counter in
    let before = c.loop.invariant.0 o t in
    let done : i ≡ 8 = omega arith in
    (before.1 ∙ asked_none c.args.question i (heard_times i o).arrivals done, tells_all i o _ _ _ _ _ done before.0)
