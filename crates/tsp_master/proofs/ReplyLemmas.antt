-- What a reply is for a master: an answer to an open exchange, or none.
use Rattle.std.proofs.Common.{◌≡◌, ℕ, ◌==◌, ◌&&◌, Bool, true, false, if◌then◌else◌, List, [], ◌∷◌, ◌++◌, Some, None, ℤ, eqb-true, eq-eqb, refl, sym, ◌∙◌, ap}
use Rattle.std.{proofs.lemmas.Bool.and_parts, proofs.lemmas.List.Elements.All-head, proofs.lemmas.List.Elements.All-tail, specs.List.All}
use Rattle.tsp_rules.specs.{RoundRows.request_at, RoundRows.sample_of, RoundRows.samples, RoundRows.samples_request, Guards.target_at}
use Rattle.tsp_rules.{specs.Values.Sample, specs.Values.Placed, specs.Values.PeerId, specs.Values.Port, proofs.Emits.Emits_puts}
use Rattle.tsp_base.specs.Words.{Past, Performs, is_going, nothing, puts, reading, ReplyValue}
use Rattle.tsp_base.proofs.PerformsLemmas.{Performs_nothing, Performs_reading, Performs_to}
use Rattle.tsp_acks.specs.declared.station.Station.{Station}
use Rattle.tsp_clock.specs.Clocks.{ClockValue, target_of}
use Rattle.tsp_measure.specs.{Measures.IsAnswered, Measures.asks, declared.exchange.Exchange.Exchange}
use Rattle.tsp_measure.specs.Rounds.{RoundsValue, AreApart, measured_with, pending_at, request_of}
use Rattle.tsp_measure.{proofs.Counters.asks_counter, proofs.Counters.pending_at_found, specs.declared.sample.Sample.Sample as SampleStruct}
use Rattle.tsp_master.specs.{MasterStands.GoingStands, MasterStands.LeadStands, MasterStands.LeadState, declared.master.Master.Master}
use Rattle.tsp_master.proofs.{LeadLemmas.Performs_idle, LeadLemmas.Performs_lead_by, RoundLemmas.MasterStands_unasked}
use Rattle.tsp_master.proofs.{SampleLemmas.MasterStands_samples, TableLemmas.target_is}

-- a reply that answers no open exchange
missed : (p : PeerId) (r : ReplyValue) (es : List Exchange) → All (λ (e : Exchange). asks r.word r.counter e ≡ false) es →
    samples_request p r (pending_at r.counter es) ≡ nothing
unfolding samples_request
missed p r [] h = refl
missed p r (e ∷ es) h = by_test (e.counter == r.counter) refl (All-head (λ (k : Exchange). asks r.word r.counter k ≡ false) e es h)
    (missed p r es (All-tail (λ (k : Exchange). asks r.word r.counter k ≡ false) e es h)) where
      by_word : (b : Bool) → (b && true) ≡ false → (if b then reading target_at (λ d. puts (sample_of p r e.a d)) else nothing) ≡ nothing
      by_word true f = let bad : ⊥ = cc in absurd bad
      by_word false f = refl

      by_test : (b : Bool) → (e.counter == r.counter) ≡ b → asks r.word r.counter e ≡ false → samples_request p r (pending_at r.counter es) ≡ nothing →
          samples_request p r (if b then Some (request_of e) else pending_at r.counter es) ≡ nothing
      by_test true f k rest = by_word (e.word == r.word) (rw f at k)
      by_test false f k rest = rest

pub Performs_missed : (p : PeerId) (r : ReplyValue) {x : ℕ} {port : Port} (old new : Master) (station : Station) (clock : ClockValue) {acts : List Placed} →
    All (λ (e : Exchange). asks r.word r.counter e ≡ false) (measured_with old.rounds p).pending →
    new.slaves ≡ old.slaves → new.rounds.asked ≡ old.rounds.asked → new.rounds.probes ≡ old.rounds.probes →
    ((q : PeerId) → measured_with new.rounds q ≡ measured_with old.rounds q) →
    Performs GoingStands LeadStands (samples p r) x port (record { master = old; station = station; clock = clock }) (record {
      master = new;
      station = station;
      clock = clock;
    }) acts acts
unfolding samples
Performs_missed p r old new station clock none ss asked_is probes_is same =
    Performs_reading (request_at p r.counter) (samples_request p r) (pending_at r.counter (measured_with old.rounds p).pending)
    (λ past h. (h.stands.master.going h.goes).requests p r.counter)
    (rw (missed p r (measured_with old.rounds p).pending none)
    (Performs_to (λ past h. record {
      master = MasterStands_unasked past old new ss asked_is probes_is same h.stands.master;
      station = h.stands.station;
      acted = h.stands.acted;
      clock = h.stands.clock;
    }) (Performs_nothing {p = GoingStands} {state =
    (record { master = old; station = station; clock = clock })})))

pub Performs_sample : (p : PeerId) (r : ReplyValue) (d : ℤ) (answer : SampleStruct) {x : ℕ} {port : Port} (old new : Master) (station : Station)
    (clock : ClockValue) {earlier later : List Placed} → d ≡ target_of clock x → AreApart (measured_with old.rounds p).pending →
    IsAnswered r.word r.counter r.ticket r.reading d (measured_with old.rounds p) (measured_with new.rounds p) answer →
    ((q : PeerId) → (q.0 ≡ p.0 → ⊥) → measured_with new.rounds q ≡ measured_with old.rounds q) →
    new.rounds.asked ≡ old.rounds.asked → new.rounds.probes ≡ old.rounds.probes → new.slaves ≡ old.slaves → later ≡ earlier ++
    record { port = port; act = Sample p answer.counter answer.diff answer.err answer.ticket } ∷ [] →
    Performs GoingStands LeadStands (samples p r) x port (record { master = old; station = station; clock = clock }) (record {
      master = new;
      station = station;
      clock = clock;
    }) earlier later
unfolding samples samples_request puts
Performs_sample p r d answer {x = x} {port = port} old new station clock {earlier = earlier} d_is apart i others asked_is probes_is ss put =
    let was : AreApart (i.before ++ i.exchange ∷ i.after) = rw i.was_pending at apart in
    let found : pending_at r.counter (measured_with old.rounds p).pending ≡ Some (request_of i.exchange) = ap (pending_at r.counter) i.was_pending ∙
    ap (λ n. pending_at n (i.before ++ i.exchange ∷ i.after)) (sym (asks_counter r.word r.counter i.exchange i.asked)) ∙
    pending_at_found i.before i.exchange i.after was in
    let same : (i.exchange.word == r.word) ≡ true = (and_parts _ _ i.asked).0 in
    let act_is : Sample p answer.counter answer.diff answer.err answer.ticket ≡ sample_of p r i.exchange.a d =
    ap (λ (t : SampleStruct). Sample p t.counter t.diff t.err t.ticket) i.told in
    Performs_reading (request_at p r.counter) (samples_request p r) (Some (request_of i.exchange)) (λ past h. (h.stands.master.going h.goes).requests p
    r.counter ∙ found)
    (rw same (Performs_reading target_at (λ t. puts (sample_of p r i.exchange.a t)) d (λ past h. target_is x past clock h.stands.clock ∙ sym d_is)
    (rw (← act_is) (Performs_lead_by old new clock (Emits_puts (Sample p answer.counter answer.diff answer.err answer.ticket) refl) (λ past h. h.stands)
    (λ past h. MasterStands_samples p r.word r.counter r.ticket r.reading d answer x past old new h.goes (d_is ∙ sym (target_is x past clock h.stands.clock))
    apart i others asked_is probes_is ss h.stands.master)
    (λ past h k. k) (Performs_idle (Sample p answer.counter answer.diff answer.err answer.ticket) refl put)))))

-- where no round goes on, a reply is passed over
pub Performs_idle_reply : (p : PeerId) (r : ReplyValue) {x : ℕ} {port : Port} (state : LeadState) {acts : List Placed} →
    ((past : Past) → LeadStands past state → is_going past.seen ≡ false) →
    Performs LeadStands LeadStands (samples p r) x port state state acts acts
unfolding samples samples_request
Performs_idle_reply p r state idle = Performs_reading (request_at p r.counter) (samples_request p r) None (λ past h. h.master.idle (idle past h) p r.counter)
    Performs_nothing

-- all peers stay, where one does and the others do
pub all_stay : (p : PeerId) (old new : RoundsValue) → measured_with new p ≡ measured_with old p → ((q : PeerId) → (q.0 ≡ p.0 → ⊥) → measured_with new q ≡
    measured_with old q) → (q : PeerId) → measured_with new q ≡ measured_with old q
all_stay p old new here others q = by_test (p.0 == q.0) refl where
  by_test : (b : Bool) → (p.0 == q.0) ≡ b → measured_with new q ≡ measured_with old q
  by_test true e = let it : p ≡ q = ap (λ n. record { 0 = n }) (eqb-true p.0 q.0 e) in ap (measured_with new) (sym it) ∙ here ∙ ap (measured_with old) it
  by_test false e = others q (λ same. let t : (p.0 == q.0) ≡ true = eq-eqb p.0 q.0 (sym same) in let bad : ⊥ = cc in bad)
