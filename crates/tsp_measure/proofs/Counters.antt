-- Lemmas on the exchanges of a round: their counters tell them apart.
use Rattle.std.proofs.Common.{◌≡◌, ◌≢◌, ℕ, suc, ◌+◌, ◌*◌, ◌%◌, ◌^◌, ◌<◌, ◌≤◌, ◌==◌, Bool, true, false, if◌then◌else◌, List, [], ◌∷◌, ◌++◌, length, Some, None}
use Rattle.std.proofs.Common.{ℤ, eqb-true, eq-eqb, refl, sym, ◌∙◌, ap, subst, arith, length-append}
use Rattle.std.{proofs.lemmas.Bool.ne_eqb, proofs.lemmas.Bool.and_parts, specs.List.All}
use Rattle.std.proofs.lemmas.List.Elements.{All-nil, All-cons, All-head, All-tail, All-push, All-weaker}
use Rattle.tsp_base.specs.declared.place.PeerId.{PeerId}
use Rattle.tsp_measure.specs.declared.sample.{Reply.TheVariants.NotStarted, Reply.TheVariants.Sample as SampleOf, TimedSample.TimedSample}
use Rattle.tsp_measure.specs.Measures.{Measured, begun, nothing_measured, IsNewCounter, TakesReply, timed_sample, asks}
use Rattle.tsp_measure.specs.{Peers.MeasuredPeers, Peers.with_peer, declared.exchange.Exchange.Exchange, declared.sample.Reply.Reply}
use Rattle.tsp_measure.specs.Rounds.{RoundsValue, measured_with, request_of, pending_at, IsFrom, AreApart, IsCounted, IsRounds, IsNothing, Starts}

-- a counter of a request isn't that of the next one
next_is_new : (first total most c : ℕ) → total ≤ first + most → most ≤ 4000 → IsFrom first total c → c ≡ total % 2 ^ 64 → ⊥
next_is_new first total most c few small (k, low, high, is) same =
    let e : k % 18446744073709551616 ≡ total % 18446744073709551616 = sym is ∙ same in
    omega (arith, e)

pending_at_other : (c : ℕ) (e : Exchange) (es : List Exchange) → (e.counter == c) ≡ false → pending_at c (e ∷ es) ≡ pending_at c es
pending_at_other c e es f = rw f refl

pending_at_same : (c : ℕ) (e : Exchange) (es : List Exchange) → (e.counter == c) ≡ true → pending_at c (e ∷ es) ≡ Some (request_of e)
pending_at_same c e es f = rw f refl

-- no open exchange has a counter that is none of theirs
pub pending_at_absent : (c : ℕ) (es : List Exchange) → All (λ (e : Exchange). e.counter ≡ c → ⊥) es → pending_at c es ≡ None
pending_at_absent c [] h = refl
pending_at_absent c (e ∷ es) h =
    pending_at_other c e es (ne_eqb e.counter c (All-head (λ (x : Exchange). x.counter ≡ c → ⊥) e es h))
    ∙ pending_at_absent c es (All-tail (λ (x : Exchange). x.counter ≡ c → ⊥) e es h)

-- a counter that isn't there is that of none of them
absent_head : (c : ℕ) (e : Exchange) (es : List Exchange) → pending_at c (e ∷ es) ≡ None → (e.counter == c) ≡ false
absent_head c e es h = by_test (e.counter == c) refl h where
  by_test : (b : Bool) → (e.counter == c) ≡ b → (if b then Some (request_of e) else pending_at c es) ≡ None → (e.counter == c) ≡ false
  by_test true f k = let bad : ⊥ = cc in absurd bad
  by_test false f k = f

absent_tail : (c : ℕ) (e : Exchange) (es : List Exchange) → pending_at c (e ∷ es) ≡ None → pending_at c es ≡ None
absent_tail c e es h = sym (pending_at_other c e es (absent_head c e es h)) ∙ h

absent_middle : (c : ℕ) (before : List Exchange) (e : Exchange) (after : List Exchange) → pending_at c (before ++ e ∷ after) ≡ None →
    ((e.counter == c) ≡ false) × (pending_at c (before ++ after) ≡ None)
absent_middle c [] e after h = (absent_head c e after h, absent_tail c e after h)
absent_middle c (x ∷ before) e after h =
    let rest = absent_middle c before e after (absent_tail c x (before ++ e ∷ after) h) in
    (rest.0, pending_at_other c x (before ++ after) (absent_head c x (before ++ e ∷ after) h) ∙ rest.1)

flip_false : (a b : ℕ) → (a == b) ≡ false → (b == a) ≡ false
flip_false a b f = ne_eqb b a (λ e. let t : (a == b) ≡ true = eq-eqb a b (sym e) in let bad : ⊥ = cc in bad)

-- an exchange with a new counter at the end
pub pending_at_push : (c : ℕ) (es : List Exchange) (e : Exchange) → pending_at e.counter es ≡ None → pending_at c (es ++ e ∷ []) ≡
    (if e.counter == c then Some (request_of e) else pending_at c es)
pending_at_push c [] e h = refl
pending_at_push c (x ∷ es) e h = by_test (x.counter == c) refl (pending_at_push c es e (absent_tail e.counter x es h)) where
  by_test : (b : Bool) → (x.counter == c) ≡ b → pending_at c (es ++ e ∷ []) ≡ (if e.counter == c then Some (request_of e) else pending_at c es)
      → (if b then Some (request_of x) else pending_at c (es ++ e ∷ [])) ≡ (if e.counter == c then Some (request_of e) else
      (if b then Some (request_of x) else pending_at c es))
  by_test true f rest =
      let same : x.counter ≡ c = eqb-true x.counter c f in
      let other : (e.counter == c) ≡ false = ap (λ n. e.counter == n) (sym same) ∙ flip_false x.counter e.counter (absent_head e.counter x es h) in
      rw other refl
  by_test false f rest = rest

absent_push : (c : ℕ) (es : List Exchange) (e : Exchange) → pending_at c es ≡ None → (e.counter == c) ≡ false → pending_at c (es ++ e ∷ []) ≡ None
absent_push c [] e h f = pending_at_other c e [] f
absent_push c (x ∷ es) e h f = pending_at_other c x (es ++ e ∷ []) (absent_head c x es h) ∙ absent_push c es e (absent_tail c x es h) f

pub AreApart_push : (es : List Exchange) (e : Exchange) → AreApart es → pending_at e.counter es ≡ None → AreApart (es ++ e ∷ [])
AreApart_push [] e a h = (refl, tt)
AreApart_push (x ∷ es) e a h =
    (absent_push x.counter es e a.0 (flip_false x.counter e.counter (absent_head e.counter x es h)), AreApart_push es e a.1 (absent_tail e.counter x es h))

-- one exchange less
pub AreApart_remove : (before : List Exchange) (e : Exchange) (after : List Exchange) → AreApart (before ++ e ∷ after) → AreApart (before ++ after)
AreApart_remove [] e after a = a.1
AreApart_remove (x ∷ before) e after a = ((absent_middle x.counter before e after a.0).1, AreApart_remove before e after a.1)

pub pending_at_found : (before : List Exchange) (e : Exchange) (after : List Exchange) → AreApart (before ++ e ∷ after) →
    pending_at e.counter (before ++ e ∷ after) ≡ Some (request_of e)
pending_at_found [] e after a = pending_at_same e.counter e after (eq-eqb e.counter e.counter refl)
pending_at_found (x ∷ before) e after a =
    pending_at_other e.counter x (before ++ e ∷ after) (flip_false e.counter x.counter (absent_middle x.counter before e after a.0).0) ∙
    pending_at_found before e after a.1

pub pending_at_remove : (c : ℕ) (before : List Exchange) (e : Exchange) (after : List Exchange) → AreApart (before ++ e ∷ after) →
    pending_at c (before ++ after) ≡ (if e.counter == c then None else pending_at c (before ++ e ∷ after))
pending_at_remove c [] e after a = by_test (e.counter == c) refl where
  by_test : (b : Bool) → (e.counter == c) ≡ b → pending_at c after ≡ (if b then None else (if b then Some (request_of e) else pending_at c after))
  by_test true f = let same : e.counter ≡ c = eqb-true e.counter c f in ap (λ n. pending_at n after) (sym same) ∙ a.0
  by_test false f = refl
pending_at_remove c (x ∷ before) e after a = by_test (x.counter == c) refl (pending_at_remove c before e after a.1) where
  by_test : (b : Bool) → (x.counter == c) ≡ b → pending_at c (before ++ after) ≡ (if e.counter == c then None else pending_at c (before ++ e ∷ after))
      → (if b then Some (request_of x) else pending_at c (before ++ after)) ≡ (if e.counter == c then None else (if b then Some (request_of x) else pending_at c
      (before ++ e ∷ after)))
  by_test true f rest =
      let same : x.counter ≡ c = eqb-true x.counter c f in
      let other : (e.counter == c) ≡ false = ap (λ n. e.counter == n) (sym same) ∙ (absent_middle x.counter before e after a.0).0 in
      rw other refl
  by_test false f rest = rest

All_remove : (P : Exchange → Type 0) (before : List Exchange) (e : Exchange) (after : List Exchange) → All P (before ++ e ∷ after) → P e ×
    All P (before ++ after)
All_remove P [] e after h = (All-head P e after h, All-tail P e after h)
All_remove P (x ∷ before) e after h =
    let rest = All_remove P before e after (All-tail P x (before ++ e ∷ after) h) in
    (rest.0, All-cons P x (before ++ after) (All-head P x (before ++ e ∷ after) h) rest.1)

IsFrom_more : (first total : ℕ) (c : ℕ) → IsFrom first total c → IsFrom first (total + 1) c
IsFrom_more first total c (k, low, high, is) = (k, low, omega arith, is)

-- the next counter is new
pub IsNewCounter_counted : (v : RoundsValue) (most : ℕ) (p : ℕ) → most ≤ 4000 → IsCounted v most → IsNewCounter v.asked (with_peer v.exchanges p)
IsNewCounter_counted v most p small h = record {
  pending = All-weaker _ (λ (e : Exchange). e.counter ≡ v.asked → ⊥) (λ e f same. next_is_new h.first h.total most e.counter h.few small f (same ∙ h.asked_is))
      _ (h.pending p);
  samples = All-weaker _ (λ (t : TimedSample). t.sample.counter ≡ v.asked → ⊥) (λ t f same. next_is_new h.first h.total most t.sample.counter h.few small f
      (same ∙ h.asked_is)) _ (h.samples p);
}

-- the count after one request more
pub IsCounted_starts : (p : PeerId) (word : ℕ) (a : ℤ) (old new : RoundsValue) (most : ℕ) → Starts p word a old new → IsCounted old most →
    IsCounted new (most + 1)
IsCounted_starts p word a old new most s h = record {
  first = h.first;
  total = h.total + 1;
  ordered = omega (arith, h.ordered);
  few = omega (arith, h.few);
  asked_is = s.asked ∙ ap (λ n. (n + 1) % 2 ^ 64) h.asked_is ∙ turn h.total;
  pending = λ q. by_peer_pending q (q == p.0) refl;
  samples = λ q. by_peer_samples q (q == p.0) refl;
} where
  turn : (n : ℕ) → (n % 2 ^ 64 + 1) % 2 ^ 64 ≡ (n + 1) % 2 ^ 64
  turn n = omega arith

  by_peer_pending : (q : ℕ) (b : Bool) → (q == p.0) ≡ b → All (λ (e : Exchange). IsFrom h.first (h.total + 1) e.counter) (with_peer new.exchanges q).pending
  by_peer_pending q true e =
      let same : q ≡ p.0 = eqb-true q p.0 e in
      let is = ap (λ n. (with_peer new.exchanges n).pending) same ∙ ap (λ (m : Measured). m.pending) s.started in
      rw is (All-push (λ (x : Exchange). IsFrom h.first (h.total + 1) x.counter) _ _
      (All-weaker _ _ (λ x f. IsFrom_more h.first h.total x.counter f) _ (h.pending p.0))
      (h.total, h.ordered, omega arith, h.asked_is))
  by_peer_pending q false e =
      let is = ap (λ (m : Measured). m.pending) (s.others (record { 0 = q }) (λ same. let t : (q == p.0) ≡ true = eq-eqb q p.0 same in let bad : ⊥ = cc in bad))
      in
      rw is (All-weaker _ _ (λ x f. IsFrom_more h.first h.total x.counter f) _ (h.pending q))

  by_peer_samples : (q : ℕ) (b : Bool) → (q == p.0) ≡ b → All (λ (t : TimedSample). IsFrom h.first (h.total + 1) t.sample.counter)
      (with_peer new.exchanges q).samples
  by_peer_samples q true e =
      let same : q ≡ p.0 = eqb-true q p.0 e in
      let is = ap (λ n. (with_peer new.exchanges n).samples) same ∙ ap (λ (m : Measured). m.samples) s.started in
      rw is (All-weaker _ _ (λ x f. IsFrom_more h.first h.total x.sample.counter f) _ (h.samples p.0))
  by_peer_samples q false e =
      let is = ap (λ (m : Measured). m.samples) (s.others (record { 0 = q }) (λ same. let t : (q == p.0) ≡ true = eq-eqb q p.0 same in let bad : ⊥ = cc in bad))
      in
      rw is (All-weaker _ _ (λ x f. IsFrom_more h.first h.total x.sample.counter f) _ (h.samples q))

pub IsCounted_more : (v : RoundsValue) (few most : ℕ) → few ≤ most → IsCounted v few → IsCounted v most
IsCounted_more v few most l h = record {
  first = h.first;
  total = h.total;
  ordered = h.ordered;
  few = omega (arith, h.few);
  asked_is = h.asked_is;
  pending = h.pending;
  samples = h.samples;
}

-- a probe that is counted begins no exchange
pub IsCounted_probed : (v : RoundsValue) (most : ℕ) → IsCounted v most → IsCounted (record v { probes = v.probes + 1 }) most
IsCounted_probed v most h = record {
  first = h.first;
  total = h.total;
  ordered = h.ordered;
  few = h.few;
  asked_is = h.asked_is;
  pending = h.pending;
  samples = h.samples;
}

pub IsRounds_probed : (v : RoundsValue) → v.probes < 3 → IsRounds v → IsRounds (record v { probes = v.probes + 1 })
IsRounds_probed v l h = record {
  three = omega arith;
  few = λ p. omega (arith, h.few p);
  counted = IsCounted_more _ (1000 * (v.probes + 1)) _ (omega arith) (IsCounted_probed v (1000 * (v.probes + 1)) h.counted);
  apart = h.apart;
}

-- what is measured with one peer: at most so many exchanges, of the requests from the first to before the total
record IsAsked (first total most : ℕ) (m : Measured) : Type 0 where
  few : begun m ≤ most
  pending : All (λ (e : Exchange). IsFrom first total e.counter) m.pending
  samples : All (λ (t : TimedSample). IsFrom first total t.sample.counter) m.samples
  apart : AreApart m.pending

IsAsked_of : (v : RoundsValue) (h : IsRounds v) (p : ℕ) → IsAsked h.counted.first h.counted.total (v.probes + 1) (with_peer v.exchanges p)
IsAsked_of v h p = record { few = h.few p; pending = h.counted.pending p; samples = h.counted.samples p; apart = h.apart p }

IsAsked_nothing : (first total most : ℕ) → IsAsked first total most nothing_measured
IsAsked_nothing first total most = record { few = omega arith; pending = All-nil _; samples = All-nil _; apart = tt }

IsRounds_by : (v : RoundsValue) (first total : ℕ) → v.probes ≤ 3 → first ≤ total → total ≤ first + 1000 * (v.probes + 1) → v.asked ≡ total % 2 ^ 64 →
    ((p : ℕ) → IsAsked first total (v.probes + 1) (with_peer v.exchanges p)) → IsRounds v
IsRounds_by v first total three ordered few asked_is k = record {
  three = three;
  few = λ p. (k p).few;
  counted = record {
    first = first;
    total = total;
    ordered = ordered;
    few = few;
    asked_is = asked_is;
    pending = λ p. (k p).pending;
    samples = λ p. (k p).samples;
  };
  apart = λ p. (k p).apart;
}

-- rounds of which nothing was asked yet
pub IsRounds_nothing : (v : RoundsValue) → v.asked ≡ 0 → v.probes ≡ 0 → IsNothing v → IsRounds v
IsRounds_nothing v a b none =
    IsRounds_by v 0 0 (omega arith) (omega arith) (omega arith) (omega arith) (λ p. subst (IsAsked 0 0 (v.probes + 1)) (sym (none p))
    (IsAsked_nothing 0 0 (v.probes + 1)))

-- all peers but one stay, and that one is asked or answered
IsAsked_others : (p : PeerId) (old new : RoundsValue) (first total most : ℕ) → ((q : PeerId) → (q.0 ≡ p.0 → ⊥) → measured_with new q ≡ measured_with old q) →
    ((q : ℕ) → IsAsked first total most (with_peer old.exchanges q)) → IsAsked first total most (measured_with new p) → (q : ℕ) →
    IsAsked first total most (with_peer new.exchanges q)
IsAsked_others p old new first total most others all here q = by_test (q == p.0) refl where
  by_test : (b : Bool) → (q == p.0) ≡ b → IsAsked first total most (with_peer new.exchanges q)
  by_test true e = subst (λ n. IsAsked first total most (with_peer new.exchanges n)) (sym (eqb-true q p.0 e)) here
  by_test false e = subst (IsAsked first total most) (sym (others (record { 0 = q }) (λ same. let t : (q == p.0) ≡ true = eq-eqb q p.0 same in
      let bad : ⊥ = cc in bad))) (all q)

-- an exchange has begun
pub IsRounds_starts : (p : PeerId) (word : ℕ) (a : ℤ) (old new : RoundsValue) → Starts p word a old new → IsRounds old →
    begun (measured_with old p) ≤ old.probes → IsCounted old (1000 * old.probes + 999) → IsRounds new
IsRounds_starts p word a old new s h few c =
    let counted : IsCounted new (1000 * (new.probes + 1)) = IsCounted_more new (1000 * old.probes + 999 + 1) (1000 * (new.probes + 1)) (omega (arith, s.probes))
    (IsCounted_starts p word a old new (1000 * old.probes + 999) s c) in
    record {
      three = omega (arith, s.probes, h.three);
      few = λ q. few_of q (q == p.0) refl;
      counted = counted;
      apart = λ q. apart_of q (q == p.0) refl;
    } where
      few_of : (q : ℕ) (b : Bool) → (q == p.0) ≡ b → begun (with_peer new.exchanges q) ≤ new.probes + 1
      few_of q true e =
          let same : q ≡ p.0 = eqb-true q p.0 e in
          let is = s.started in
          let many = length-append (measured_with old p).pending (record { word = word; counter = old.asked; a = a } ∷ []) in
          rw (same, is) (omega (arith, many, few, s.probes))
      few_of q false e = rw (s.others (record { 0 = q }) (λ same. let t : (q == p.0) ≡ true = eq-eqb q p.0 same in let bad : ⊥ = cc in bad))
          (omega (arith, h.few q, s.probes))

      apart_of : (q : ℕ) (b : Bool) → (q == p.0) ≡ b → AreApart (with_peer new.exchanges q).pending
      apart_of q true e =
          let same : q ≡ p.0 = eqb-true q p.0 e in
          let is = s.started in
          rw (same, is) (AreApart_push (measured_with old p).pending (record { word = word; counter = old.asked; a = a }) (h.apart p.0) s.fresh)
      apart_of q false e = rw (s.others (record { 0 = q }) (λ same. let t : (q == p.0) ≡ true = eq-eqb q p.0 same in let bad : ⊥ = cc in bad)) (h.apart q)

pub asks_counter : (word counter : ℕ) (e : Exchange) → asks word counter e ≡ true → e.counter ≡ counter
asks_counter word counter e h = eqb-true e.counter counter ((and_parts (e.word == word) (e.counter == counter) h).1)

IsAsked_replies : (first total most : ℕ) (word counter ticket : ℕ) (s d : ℤ) (old new : Measured) (r : Reply) → TakesReply word counter ticket s d old new r →
    IsAsked first total most old → IsAsked first total most new
IsAsked_replies first total most word counter ticket s d old new NotStarted r h = subst (IsAsked first total most) (sym r.1) h
IsAsked_replies first total most word counter ticket s d old new (SampleOf sample) i h =
    let open_was : All (λ (e : Exchange). IsFrom first total e.counter) (i.before ++ i.exchange ∷ i.after) = rw (← i.was_pending) h.pending in
    let split = All_remove (λ (e : Exchange). IsFrom first total e.counter) i.before i.exchange i.after open_was in
    let apart_was : AreApart (i.before ++ i.exchange ∷ i.after) = rw (← i.was_pending) h.apart in
    let many : length old.pending ≡ length i.before + suc (length i.after) = ap length i.was_pending ∙ length-append i.before (i.exchange ∷ i.after) in
    let fewer : length new.pending ≡ length i.before + length i.after = ap length i.is_pending ∙ length-append i.before i.after in
    let more : length new.samples ≡ length old.samples + 1 = ap length i.samples ∙ length-append old.samples (timed_sample i.exchange.a s d ticket counter ∷
    []) in
    record {
      few = omega (arith, many, fewer, more, h.few);
      pending = rw i.is_pending split.1;
      samples = rw i.samples (All-push (λ (t : TimedSample). IsFrom first total t.sample.counter) old.samples (timed_sample i.exchange.a s d ticket counter)
          h.samples
          (subst (IsFrom first total) (asks_counter word counter i.exchange i.asked) split.0));
      apart = rw i.is_pending (AreApart_remove i.before i.exchange i.after apart_was);
    }

-- an exchange was answered, or none
pub IsRounds_replies : (p : PeerId) (word counter ticket : ℕ) (s d : ℤ) (old new : RoundsValue) (r : Reply) → new.asked ≡ old.asked → new.probes ≡ old.probes →
    TakesReply word counter ticket s d (measured_with old p) (measured_with new p) r → ((q : PeerId) → (q.0 ≡ p.0 → ⊥) → measured_with new q ≡
    measured_with old q) → IsRounds old → IsRounds new
IsRounds_replies p word counter ticket s d old new r asked probes replies others h =
    IsRounds_by new h.counted.first h.counted.total (rw probes h.three) h.counted.ordered (rw probes h.counted.few) (asked ∙ h.counted.asked_is)
    (rw probes (IsAsked_others p old new h.counted.first h.counted.total (old.probes + 1) others (IsAsked_of old h)
    (IsAsked_replies h.counted.first h.counted.total (old.probes + 1) word counter ticket s d (measured_with old p) (measured_with new p) r replies
    (IsAsked_of old h p.0))))

-- the exchanges with one more have begun it
pub Starts_begun : (p : PeerId) (word : ℕ) (a : ℤ) (old : RoundsValue) (new : MeasuredPeers) → new.peers ≡ old.exchanges.peers →
    with_peer new p.0 ≡ record (measured_with old p) { pending = (measured_with old p).pending ++ record { word = word; counter = old.asked; a = a } ∷ [] } →
    ((q : ℕ) → q ≢ p.0 → with_peer new q ≡ with_peer old.exchanges q) →
    old.probes ≤ 3 → IsCounted old (1000 * old.probes + 999) → Starts p word a old (record {
      exchanges = new;
      asked = (old.asked + 1) % 2 ^ 64;
      probes = old.probes;
    })
Starts_begun p word a old new peers started others three counted = record {
  asked = refl;
  probes = refl;
  peers = peers;
  fresh = pending_at_absent old.asked (measured_with old p).pending (IsNewCounter_counted old (1000 * old.probes + 999) p.0 (omega arith) counted).pending;
  started = started;
  others = λ q n. others q.0 n;
}
