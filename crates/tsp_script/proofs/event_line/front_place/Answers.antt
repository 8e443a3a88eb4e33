use Rattle.tsp_base.specs.declared.place.Place.TheVariants.{Stranger}
use Rattle.tsp_script.proofs.EventLines.{places_apart, no_place}
use Rattle.tsp_script.proofs.event_line.front_place.Goals as goal

pub returns-in-Some-clause-reads : goal.returns-in-Some-clause-reads
returns-in-Some-clause-reads c = λ p rest h e. places_apart c.args.line.now Stranger p c.in-Some.rest.now rest tt h c.in-Some.ensures e

pub returns-in_err-number-clause-reads : goal.returns-in_err-number-clause-reads
returns-in_err-number-clause-reads c = λ p rest h e. absurd (no_place c.args.line.now rest p h e c.in_default.ensures
    (λ n k l. c.in_err-number.ensures.reads n rest k l))
