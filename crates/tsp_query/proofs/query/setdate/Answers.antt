use Rattle.std.proofs.Common.{◌%◌, refl}
use Rattle.tsp_query.specs.{Queries.date_message, Queries.date_answer, declared.question.Question.TheVariants.OfDate}
use Rattle.tsp_query.proofs.QueryLemmas.{fits_date, ends_by, counts_end}
use Rattle.tsp_query.proofs.query.setdate.Goals as goal

pub ask_by_message-requires : goal.ask_by_message-requires
ask_by_message-requires g c = fits_date c.args.time

pub returns-clause-asks : goal.returns-clause-asks
returns-clause-asks g c = λ o word t w.
    rw c.date_end.ensures (ends_by (date_message c.args.time word) (OfDate (word % 65536)) date_answer o _ _ _ _ _ _ _ c.ask_by_message.result
    (λ d tick h. (d, tick, h, refl)) (c.ask_by_message.ensures.asks o word t w))

pub returns-clause-faults : goal.returns-clause-faults
returns-clause-faults g c = counts_end _ _ _ date_answer c.ask_by_message.result c.date_end.result (λ d tick e. cc) c.date_end.ensures
    c.ask_by_message.ensures.faults
