use Rattle.std.proofs.Common.{◌≡◌, ◌∙◌, ap, ℕ, ℤ}
use Rattle.tsp_query.specs.{Clocks.tick_given, Queries.read_twice, Queries.stamp, declared.question.Question.TheVariants.OfWord}
use Rattle.tsp_query.specs.declared.ask.AskEnd.TheVariants.{Answer, NoAnswer, LinkFault, OutOfMemory}
use Rattle.tsp_query.proofs.{AskLemmas.of_some, QueryLemmas.asks_stamp, QueryLemmas.tells_twice, QueryLemmas.ends-diff}
use Rattle.tsp_query.proofs.query.clockdiff.Goals as goal

pub returns-in-NoAnswer-clause-asks : goal.returns-in-NoAnswer-clause-asks
returns-in-NoAnswer-clause-asks g c = λ o word wall t w v.
    let same : c.begin-start.result.word ≡ word = of_some (λ (v : ℕ). c.begin-start.result.word ≡ v) _ word c.begin-start.ensures.word w in
    let readings = c.begin-start.ensures.readings o.readings t.readings_are in
    let tells = tells_twice o _ _ _ _ _ _ c.begin-start.result.sent _ t readings.1 readings.2 c.begin-start.ensures.last in
    asks_stamp c.begin-start.result.word word (read_twice o) _ _ _ _ _ 0 0 NoAnswer same (c.in-NoAnswer.ensures.asks (read_twice o) tells)

pub returns-in-LinkFault-clause-asks : goal.returns-in-LinkFault-clause-asks
returns-in-LinkFault-clause-asks g c = λ o word wall t w v.
    let same : c.begin-start.result.word ≡ word = of_some (λ (v : ℕ). c.begin-start.result.word ≡ v) _ word c.begin-start.ensures.word w in
    let readings = c.begin-start.ensures.readings o.readings t.readings_are in
    let tells = tells_twice o _ _ _ _ _ _ c.begin-start.result.sent _ t readings.1 readings.2 c.begin-start.ensures.last in
    asks_stamp c.begin-start.result.word word (read_twice o) _ _ _ _ _ _ _ LinkFault same (c.in-LinkFault.ensures.asks (read_twice o) tells)

pub returns-in-OutOfMemory-clause-asks : goal.returns-in-OutOfMemory-clause-asks
returns-in-OutOfMemory-clause-asks g c = λ o word wall t w v.
    let same : c.begin-start.result.word ≡ word = of_some (λ (v : ℕ). c.begin-start.result.word ≡ v) _ word c.begin-start.ensures.word w in
    let readings = c.begin-start.ensures.readings o.readings t.readings_are in
    let tells = tells_twice o _ _ _ _ _ _ c.begin-start.result.sent _ t readings.1 readings.2 c.begin-start.ensures.last in
    asks_stamp c.begin-start.result.word word (read_twice o) _ _ _ _ _ 0 0 OutOfMemory same (c.in-OutOfMemory.ensures.asks (read_twice o) tells)

pub returns-in-Answer-clause-asks : goal.returns-in-Answer-clause-asks
returns-in-Answer-clause-asks g c = λ o word wall t w v.
    let same : c.begin-start.result.word ≡ word = of_some (λ (v : ℕ). c.begin-start.result.word ≡ v) _ word c.begin-start.ensures.word w in
    let readings = c.begin-start.ensures.readings o.readings t.readings_are in
    let tells = tells_twice o _ _ _ _ _ _ c.begin-start.result.sent _ t readings.1 readings.2 c.begin-start.ensures.last in
    let asked = asks_stamp c.begin-start.result.word word (read_twice o) _ _ _ _ _ 0 0 (Answer c.in-Answer.answer c.in-Answer.came) same
    (c.in-Answer.ensures.asks (read_twice o) tells) in
    let clock : c.begin-start.result.wall ≡ wall = of_some (λ (x : ℤ). c.begin-start.result.wall ≡ x) _ wall c.begin-start.ensures.wall v in
    let first = readings.0 ∙ ap (λ last. tick_given last o.readings 0) t.last_is in
    let sent = readings.1 ∙ ap (λ last. tick_given last o.readings 1) t.last_is in
    ends-diff (stamp word) (OfWord word) c.begin-start.result.wall wall c.begin-start.result.first _ c.begin-start.result.sent _ o _ _ _ _ _ _ _ c.sample.result
    c.in-Answer.answer c.in-Answer.came c.sample.ensures clock first sent asked
