use Rattle.std.proofs.Common.{◌≡◌, ℕ, arith}
use Rattle.tsp_query.specs.Queries.{read_twice}
use Rattle.tsp_query.proofs.{AskLemmas.of_some, QueryLemmas.asks_message, QueryLemmas.tells_twice, QueryLemmas.once_asked}
use Rattle.tsp_query.proofs.query.ask_by_message.Goals as goal

pub returns-clause-asks : goal.returns-clause-asks
returns-clause-asks g c = λ o word t w.
    let same : c.begin-start.result.word ≡ word = of_some (λ (v : ℕ). c.begin-start.result.word ≡ v) _ word c.begin-start.ensures.word w in
    let readings = c.begin-start.ensures.readings o.readings t.readings_are in
    let tells = tells_twice o _ _ _ _ _ _ c.begin-start.result.sent _ t readings.1 readings.2 c.begin-start.ensures.last in
    asks_message c.args.kind c.args.body c.args.dates c.begin-start.result.word word c.client.result c.new.result c.question_of.result (read_twice o) _ _ _ _ _
    _ _ c.ask.result c.new.ensures c.client.ensures c.question_of.ensures same (c.ask.ensures.asks (read_twice o) tells)

pub returns-clause-once : goal.returns-clause-once
returns-clause-once g c = once_asked _ _ _ _ _ _ _ c.begin-start.ensures.walled (omega arith) c.ask.ensures.waits c.ask.ensures.keeps
