use Rattle.std.proofs.Common.{◌%◌, refl}
use Rattle.tsp_base.specs.declared.kind.Kind.TheVariants.{Test}
use Rattle.tsp_query.specs.{Queries.message, Queries.heard_in, declared.question.Question.TheVariants.OfNumber}
use Rattle.tsp_query.proofs.QueryLemmas.{fits_test, ends_by, counts_end}
use Rattle.tsp_query.proofs.query.election.Goals as goal

pub ask_by_message-requires : goal.ask_by_message-requires
ask_by_message-requires g c = fits_test

pub returns-clause-asks : goal.returns-clause-asks
returns-clause-asks g c = λ o word t w.
    rw c.heard_end.ensures (ends_by (message Test word) (OfNumber (word % 65536)) heard_in o _ _ _ _ _ _ _ c.ask_by_message.result
    (λ d tick h. (d, tick, h, refl)) (c.ask_by_message.ensures.asks o word t w))

pub returns-clause-faults : goal.returns-clause-faults
returns-clause-faults g c = counts_end _ _ _ heard_in c.ask_by_message.result c.heard_end.result (λ d tick e. cc) c.heard_end.ensures
    c.ask_by_message.ensures.faults
