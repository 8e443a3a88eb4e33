-- What a storm comes to.
use Rattle.std.proofs.Common.{◌∙◌, ap, refl, inl}
use Rattle.tsp_lines.specs.Outcomes.{limit_line}
use Rattle.tsp_storm.specs.declared.run.StormEnd.TheVariants.{Done, Limit, OutOfMemory}
use Rattle.tsp_storm.proofs.Ends.{said, agrees}
use Rattle.tsp_storm.proofs.run.storm.Goals as goal

pub returns-in-Ok-clause-ends : goal.returns-in-Ok-clause-ends
returns-in-Ok-clause-ends g c =
    said c.args.words.now Done c.as_slice.result.now _ _ c.say.result (
      c.in-Ok.ensures.0,
      c.in-Ok.ensures.1,
      c.as_slice.ensures.value ∙ c.text.ensures ∙
          c.in-Ok.ensures.2,
    ) c.say.ensures.says

pub returns-in-Ok-clause-answers : goal.returns-in-Ok-clause-answers
returns-in-Ok-clause-answers g c = λ end text a. agrees c.args.words.now _ _ c.say.result (returns-in-Ok-clause-ends g c) end text a

pub returns-in-Err-Limit-clause-ends : goal.returns-in-Err-Limit-clause-ends
returns-in-Err-Limit-clause-ends g c =
    let halts = rw c.in-Err-Limit.field-0-is at c.in-Err-Limit.ensures in
    said c.args.words.now Limit c.as_slice-in-Err-Limit.result.now _ _ c.say-in-Err-Limit.result
    (halts.0, halts.1, c.as_slice-in-Err-Limit.ensures.value ∙ c.limit_line.ensures ∙ ap (λ n. limit_line n) halts.2) c.say-in-Err-Limit.ensures.says

pub returns-in-Err-Limit-clause-answers : goal.returns-in-Err-Limit-clause-answers
returns-in-Err-Limit-clause-answers g c = λ end text a. agrees c.args.words.now _ _ c.say-in-Err-Limit.result (returns-in-Err-Limit-clause-ends g c) end text a

pub returns-in-Err-Limit-clause-complete : goal.returns-in-Err-Limit-clause-complete
returns-in-Err-Limit-clause-complete g c = λ room still.
    let halts = rw c.in-Err-Limit.field-0-is at c.in-Err-Limit.ensures in
    absurd (room halts.0 halts.1.within halts.1.limit)

pub returns-in-Err-OutOfMemory-clause-answers : goal.returns-in-Err-OutOfMemory-clause-answers
returns-in-Err-OutOfMemory-clause-answers g c = λ end text a. agrees c.args.words.now _ _ OutOfMemory (inl refl) end text a
