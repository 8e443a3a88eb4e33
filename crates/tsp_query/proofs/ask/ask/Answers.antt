use Rattle.std.proofs.Common.{◌∙◌, refl}
use Rattle.tsp_query.{proofs.AskLemmas.asks_listens, specs.Ends.after_send}
use Rattle.tsp_query.proofs.ask.ask.Goals as goal

pub returns-in-Sent-clause-asks : goal.returns-in-Sent-clause-asks
returns-in-Sent-clause-asks g c = λ o t.
    let octets = c.as_slice.ensures.value ∙ c.encode.ensures.octets in
    asks_listens c.args.request.now c.args.question o _ _ _ _ _ _ _ c.listen.result (c.listen.ensures.sends ∙ c.in-Sent.ensures.still (λ e. cc))
    (c.listen.ensures.listens (after_send c.args.request.now o) (record {
      arrivals_are = cc;
      tried_are = c.in-Sent.ensures.sends ∙ rw (t.tried_are, octets) refl;
      calls_are = cc;
      readings_are = t.readings_are;
      last_is = t.last_is;
    }))
