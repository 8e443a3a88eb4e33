use Rattle.std.proofs.Common.{◌≡◌, ◌∙◌, ◌<◌, ◌++◌, ◌∷◌, [], arith, suc, take, drop, length, get_or, List, ℤ, true, sym, ap, subst, FitsSigned}
use Rattle.std.{proofs.lemmas.Int.ints, proofs.lemmas.Int.to_z-of_z, specs.Int.w64}
use Rattle.tsp_measure.specs.Measures.{Measured, IsReading, asks, timed_sample}
use Rattle.tsp_measure.specs.declared.{exchange.Exchange.Exchange, sample.TimedSample.TimedSample}
use Rattle.tsp_measure.proofs.Removals.{split_at_place, All_remove}
use Rattle.tsp_measure.proofs.peer_exchanges.PeerExchanges.reply.Goals as goal

reading_fits : (a : ℤ) → IsReading a → FitsSigned w64 a
reading_fits a h = let low = h.low in let high = h.high in omega (arith, ints)

pub invariant_of-self : goal.invariant_of-self
invariant_of-self c = (
  omega (arith, c.remove-exchange.ensures.len, c.push.ensures.len, c.self.invariant.0),
  rw c.remove-exchange.ensures.items (All_remove (λ (e : Exchange). IsReading e.a) c.self.inside.pending.items c.in-Some.place c.self.invariant.1),
)

pub returns-in-Some : goal.returns-in-Some
returns-in-Some c =
    let found = rw c.as_slice.ensures.value at c.in-Some.ensures in
    let place : c.in-Some.place < length c.self.inside.pending.items = found.0 in
    let here : get_or c.self.inside.pending.items c.in-Some.place c.remove-exchange.result ≡ c.remove-exchange.result = sym c.remove-exchange.ensures.value in
    let asked : asks c.args.word c.args.counter c.remove-exchange.result ≡ true = subst (λ (e : Exchange). asks c.args.word c.args.counter e ≡
    true) here (found.1 c.remove-exchange.result) in
    let fits : FitsSigned w64 c.remove-exchange.result.a = reading_fits c.remove-exchange.result.a
    (subst (λ (e : Exchange). IsReading e.a) here (c.self.invariant.1 c.in-Some.place c.remove-exchange.result place)) in
    let taken : c.new-taken.result ≡ timed_sample c.remove-exchange.result.a c.args.s c.args.d c.args.ticket c.args.counter =
    rw (to_z-of_z w64 c.remove-exchange.result.a fits, to_z-of_z w64 c.args.s c.ranges.s, to_z-of_z w64 c.args.d c.ranges.d) at c.new-taken.ensures in
    record {
      before = take c.in-Some.place c.self.inside.pending.items;
      exchange = c.remove-exchange.result;
      after = drop (suc c.in-Some.place) c.self.inside.pending.items;
      was_pending = sym (ap (λ (m : Measured). m.pending) c.self.view_is) ∙ split_at_place c.self.inside.pending.items c.in-Some.place c.remove-exchange.result
          place c.remove-exchange.ensures.value;
      asked = asked;
      is_pending = c.remove-exchange.ensures.items;
      samples = c.push.ensures.items ∙ rw taken (ap (λ (xs : List TimedSample). xs ++
          timed_sample c.remove-exchange.result.a c.args.s c.args.d c.args.ticket c.args.counter ∷ []) (ap (λ (m : Measured). m.samples) c.self.view_is));
      told = ap (λ (t : TimedSample). t.sample) taken;
    }
