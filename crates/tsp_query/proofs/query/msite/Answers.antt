use Rattle.std.proofs.Common.{◌%◌, refl}
use Rattle.tsp_base.specs.declared.kind.Kind.TheVariants.{Msite}
use Rattle.tsp_query.specs.{Queries.message, Queries.master_in, declared.question.Question.TheVariants.OfNumber}
use Rattle.tsp_query.proofs.QueryLemmas.{fits_msite, ends_by, counts_end}
use Rattle.tsp_query.proofs.query.msite.Goals as goal

pub ask_by_message-requires : goal.ask_by_message-requires
ask_by_message-requires g c = fits_msite

pub returns-clause-asks : goal.returns-clause-asks
returns-clause-asks g c = λ o word t w.
    rw c.master_end.ensures (ends_by (message Msite word) (OfNumber (word % 65536)) master_in o _ _ _ _ _ _ _ c.ask_by_message.result
    (λ d tick h. (d, tick, h, refl)) (c.ask_by_message.ensures.asks o word t w))

pub returns-clause-faults : goal.returns-clause-faults
returns-clause-faults g c = counts_end _ _ _ master_in c.ask_by_message.result c.master_end.result (λ d tick e. cc) c.master_end.ensures
    c.ask_by_message.ensures.faults
