-- The answer is to the question that is open.
use Rattle.std.proofs.Common.{◌∙◌, ap}
use Rattle.tsp_script.specs.Storms.{storm_answer}
use Rattle.tsp_storm.proofs.making.answer.Goals as goal

pub returns-clause-next : goal.returns-clause-next
returns-clause-next c = c.choice.ensures.next ∙ ap (λ o. storm_answer c.args.posted o c.args.time c.args.storm.now) c.requires.asked
