use Rattle.std.proofs.Common.{◌%◌, refl}
use Rattle.tsp_query.specs.{Queries.message, Queries.trace_kind, Queries.heard_in, declared.question.Question.TheVariants.OfNumber}
use Rattle.tsp_query.proofs.QueryLemmas.{fits_trace, ends_by, counts_end}
use Rattle.tsp_query.proofs.query.trace.Goals as goal

pub ask_by_message-requires : goal.ask_by_message-requires
ask_by_message-requires g c = rw c.trace_kind-kind.ensures (fits_trace c.args.on)

pub returns-clause-asks : goal.returns-clause-asks
returns-clause-asks g c = λ o word t w.
    rw c.heard_end.ensures (ends_by (message (trace_kind c.args.on) word) (OfNumber (word % 65536)) heard_in o _ _ _ _ _ _ _ c.ask_by_message.result
    (λ d tick h. (d, tick, h, refl)) (rw (← c.trace_kind-kind.ensures) (c.ask_by_message.ensures.asks o word t w)))

pub returns-clause-faults : goal.returns-clause-faults
returns-clause-faults g c = counts_end _ _ _ heard_in c.ask_by_message.result c.heard_end.result (λ d tick e. cc) c.heard_end.ensures
    c.ask_by_message.ensures.faults
