-- The line was accepted, and what it tells is handed over, or nothing has changed.
use Rattle.std.proofs.Common.{reverse, refl}
use Rattle.tsp_lines.{proofs.Fronts.ahead_within, specs.Lines.line_ahead, specs.declared.treatment.Stop.TheVariants.WriteFault}
use Rattle.tsp_schedule.specs.Schedules.{Progress}
use Rattle.tsp_replay.{proofs.Places.Advances, proofs.TreatLemmas.Goes_advances, proofs.TreatLemmas.StopsAt_untold, specs.Schedules.Reaches}
use Rattle.tsp_replay.proofs.replay.ReplayTreatment.try_front.Goals as goal

pub returns-in_default-clause-tries : goal.returns-in_default-clause-tries
returns-in_default-clause-tries g c lines text stands accepts room = (λ q r. c.in_default.ensures.tries q (stands q r), refl, refl)

pub returns-in-Ok-clause-tries : goal.returns-in-Ok-clause-tries
returns-in-Ok-clause-tries g c lines text stands accepts room =
    let line = line_ahead c.args.octets.now c.in-Some.count in
    let next = c.try_front.new.self in
    let advances : (q : Progress) → Reaches (reverse lines) q → Advances q line next = λ q r. (c.in-Some.ensures.tries q (stands q r)).4 in
    (line, c.in-Some.ensures.front, Goes_advances lines text line accepts.0 next _ _ _ _ accepts.1 accepts.2 advances (rw c.told.ensures at c.in-Ok.ensures.ok))

pub returns-in-Err-clause-tries : goal.returns-in-Err-clause-tries
returns-in-Err-clause-tries g c lines text stands accepts room =
    let line = line_ahead c.args.octets.now c.in-Some.count in
    let next = c.try_front.new.self in
    let advances : Advances accepts.0 line next = (c.in-Some.ensures.tries accepts.0 (stands accepts.0 accepts.1)).4 in (
      line,
      c.in-Some.count,
      c.in-Some.ensures.front,
      StopsAt_untold lines text line accepts.0 next _ _ _ _ WriteFault accepts.1 accepts.2 advances
          (rw c.told.ensures at c.in-Err.ensures.err),
    )

pub returns-in-Ok-clause-within : goal.returns-in-Ok-clause-within
returns-in-Ok-clause-within g c = ahead_within c.args.octets.now c.in-Some.count c.in-Some.ensures.front
