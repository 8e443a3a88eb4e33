-- Where a round began and where an open exchange was asked. The best sample of a peer stands in the last round. The
-- last Close of a step stands at its place.
use Rattle.std.proofs.Common.{sym, ap, subst, inl, inr, eqb-true, ◌∙◌, ◌≡◌, ◌==◌, ◌&&◌, cond, Bool, true, false, ℕ, ◌⊎◌, List, [], ◌∷◌, refl, int_lt, Option}
use Rattle.std.proofs.Common.{Some, None}
use Rattle.std.proofs.lemmas.Bool.{and_parts}
use Rattle.tsp_promises.{proofs.promised.SendProof.if_nil, proofs.leads.Leaves.nil_cons, specs.StepFacts.closed, specs.StepFacts.closed_after}
use Rattle.tsp_rules.specs.Values.{Boot, Post, Become, Arm, Ring, Late, Abandon, Sample, CloseAlarm, Stamp, PeerId, Peer, Request, Close}
use Rattle.tsp_rules.proofs.GuardFacts.{same_peer}
use Rattle.tsp_base.specs.Words.{Deed, Acts, Did, Seen, Here, Elsewhere, Within, started, started_after, exchange, exchange_after, Sampled, best, best_after}
use Rattle.tsp_base.specs.Words.{better, Begins}

-- the last round's beginning stands at its place
pub record StartedAt (start : Did) (idle seen : List Seen) : Type 0 where
  pub place : Within (Here start ∷ idle) seen
  pub at : ℕ
  pub deed : start.deed ≡ Acts (Arm CloseAlarm at)

started_deed : (d : Did) (before : List Seen) (start : Did) (idle : List Seen) (deed : Deed) → deed ≡ d.deed →
    started_after deed (Here d ∷ before) (started before) ≡ Here start ∷ idle →
    ((Here d ∷ before ≡ Here start ∷ idle) × ((at : ℕ) × (d.deed ≡ Acts (Arm CloseAlarm at)))) ⊎ (started before ≡ Here start ∷ idle)
started_deed d before start idle (Acts Boot) is e = nil_cons (Here start) idle e
started_deed d before start idle (Acts (Arm CloseAlarm at)) is e = inl (e, (at, sym is))
started_deed d before start idle _ is e = inr e

pub started_at : (seen : List Seen) (start : Did) (idle : List Seen) → started seen ≡ Here start ∷ idle → StartedAt start idle seen
started_at [] start idle e = nil_cons (Here start) idle e
started_at (Elsewhere d ∷ before) start idle e = let o = started_at before start idle e in record { place = inr o.place; at = o.at; deed = o.deed }
started_at (Here d ∷ before) start idle e = elim (started_deed d before start idle d.deed refl e) [
  | inl h ↦
      let line : d ≡ start = (let k = h.0 in cc) in
      record { place = inl (sym h.0); at = h.1.0; deed = subst (λ k. k.deed ≡ Acts (Arm CloseAlarm h.1.0)) line h.1.1 }
  | inr h ↦ let o = started_at before start idle h in record { place = inr o.place; at = o.at; deed = o.deed }
]

-- the request of an open exchange stands at its place, after the beginning of the last round
pub record ExchangeAt (p : PeerId) (c : ℕ) (post : Did) (older seen : List Seen) : Type 0 where
  pub place : Within (Here post ∷ older) seen
  pub word : ℕ
  pub deed : post.deed ≡ Acts (Post (Peer p) (Stamp (Request word c)))
  pub after : (start : Did) (idle : List Seen) → started seen ≡ Here start ∷ idle → Within (Here start ∷ idle) older

exchange_post : (p q : PeerId) (c word counter : ℕ) (d : Did) (before : List Seen) (post : Did) (older was : List Seen) →
    Acts (Post (Peer q) (Stamp (Request word counter))) ≡ d.deed → (was ≡ Here post ∷ older → ExchangeAt p c post older before) →
    (b : Bool) → ((q.0 == p.0) && (counter == c)) ≡ b → cond b (Here d ∷ before) was ≡ Here post ∷ older → ExchangeAt p c post older (Here d ∷ before)
exchange_post p q c word counter d before post older was is h true b e =
    let one = and_parts (q.0 == p.0) (counter == c) b in
    let peer : q ≡ p = same_peer q p one.0 in
    let number : counter ≡ c = eqb-true counter c one.1 in
    let deed : d ≡ post = cc in
    let rest : before ≡ older = cc in
    record {
      place = inl (sym e);
      word = word;
      deed = ap (λ (k : Did). k.deed) (sym deed) ∙ (sym is ∙ (ap (λ k. Acts (Post (Peer k) (Stamp (Request word counter)))) peer ∙
          ap (λ k. Acts (Post (Peer p) (Stamp (Request word k)))) number));
      after = λ start idle s. subst (λ k. Within (Here start ∷ idle) k) rest (started_at before start idle
          (subst (λ k. started_after k (Here d ∷ before) (started before) ≡ Here start ∷ idle) (sym is) s)).place;
    }
exchange_post p q c word counter d before post older was is h false b e =
    let o = h e in
    record {
      place = inr o.place;
      word = o.word;
      deed = o.deed;
      after = λ start idle s. o.after start idle
          (subst (λ k. started_after k (Here d ∷ before) (started before) ≡ Here start ∷ idle) (sym is) s);
    }

later : (p : PeerId) (c : ℕ) (d : Did) (before : List Seen) (post : Did) (older : List Seen) → started (Here d ∷ before) ≡ started before →
    ExchangeAt p c post older before → ExchangeAt p c post older (Here d ∷ before)
later p c d before post older s o = record { place = inr o.place; word = o.word; deed = o.deed; after = λ start idle e. o.after start idle (sym s ∙ e) }

exchange_deed : (p : PeerId) (c : ℕ) (d : Did) (before : List Seen) (post : Did) (older : List Seen) (deed : Deed) → deed ≡ d.deed →
    (exchange p c before ≡ Here post ∷ older → ExchangeAt p c post older before) →
    exchange_after p c deed (Here d ∷ before) (exchange p c before) ≡ Here post ∷ older → ExchangeAt p c post older (Here d ∷ before)
exchange_deed p c d before post older (Acts Boot) is h e = nil_cons (Here post) older e
exchange_deed p c d before post older (Acts (Become r)) is h e = nil_cons (Here post) older e
exchange_deed p c d before post older (Acts (Arm CloseAlarm at)) is h e = nil_cons (Here post) older e
exchange_deed p c d before post older (Acts (Ring CloseAlarm)) is h e = nil_cons (Here post) older e
exchange_deed p c d before post older (Acts (Late CloseAlarm)) is h e = nil_cons (Here post) older e
exchange_deed p c d before post older (Acts Abandon) is h e = nil_cons (Here post) older e
exchange_deed p c d before post older (Acts (Post (Peer q) (Stamp (Request word counter)))) is h e =
    exchange_post p q c word counter d before post older (exchange p c before) is h _ refl e
exchange_deed p c d before post older (Acts (Sample q counter diff err ticket)) is h e =
    later p c d before post older (ap (λ k. started_after k (Here d ∷ before) (started before)) (sym is))
    (h (if_nil ((q.0 == p.0) && (counter == c)) (exchange p c before) (Here post) older e))
exchange_deed p c d before post older deed is h e = later p c d before post older (ap (λ k. started_after k (Here d ∷ before) (started before)) (sym is)) (h e)

pub exchange_at : (p : PeerId) (c : ℕ) (seen : List Seen) (post : Did) (older : List Seen) → exchange p c seen ≡ Here post ∷ older →
    ExchangeAt p c post older seen
exchange_at p c [] post older e = nil_cons (Here post) older e
exchange_at p c (Elsewhere d ∷ before) post older e = let o = exchange_at p c before post older e in record {
  place = inr o.place;
  word = o.word;
  deed = o.deed;
  after = o.after;
}
exchange_at p c (Here d ∷ before) post older e = exchange_deed p c d before post older d.deed refl (λ k. exchange_at p c before post older k) e

-- two pasts of one round have one beginning of it
pub same_start : (s start : Did) (i idle seen rest past : List Seen) → started seen ≡ Here s ∷ i → rest ≡ seen → started rest ≡ started past → started past ≡
    Here start ∷ idle → s ≡ start
same_start s start i idle seen rest past mine is round theirs =
    let starts : Here s ∷ i ≡ Here start ∷ idle = sym mine ∙ (ap started (sym is) ∙ (round ∙ theirs)) in
    cc

-- a sample stands at its place, in the last round
pub record BestAt (p : PeerId) (s : Sampled) (seen : List Seen) : Type 0 where
  pub did : Did
  pub rest : List Seen
  pub is : s.place ≡ Here did ∷ rest
  pub place : Within (Here did ∷ rest) seen
  pub deed : did.deed ≡ Acts (Sample p s.counter s.diff s.err s.ticket)
  pub round : started rest ≡ started seen

better_is : (was : Option Sampled) (late s : Sampled) → better was late ≡ s → (late ≡ s) ⊎ (was ≡ Some s)
better_is None late s e = inl e
better_is (Some early) late s e = (elim (int_lt late.trip early.trip) as (λ b. cond b late early ≡ s → (late ≡ s) ⊎ (Some early ≡ Some s))
    [ true ↦ λ h. inl h | false ↦ λ h. inr (ap (λ k. Some k) h) ]) e

best_before : (p : PeerId) (s : Sampled) (d : Did) (before : List Seen) → started (Here d ∷ before) ≡ started before → BestAt p s before →
    BestAt p s (Here d ∷ before)
best_before p s d before same b = record { did = b.did; rest = b.rest; is = b.is; place = inr b.place; deed = b.deed; round = b.round ∙ sym same }

pub some_is : (a b : Sampled) → Some a ≡ Some b → a ≡ b
some_is a b e = cc

best_sample : (p q : PeerId) (d : Did) (before : List Seen) (was : Option Sampled) (s late : Sampled) →
    Acts (Sample q late.counter late.diff late.err late.ticket) ≡ d.deed → late.place ≡ Here d ∷ before → (was ≡ Some s → BestAt p s before) →
    (b : Bool) → (q.0 == p.0) ≡ b → cond b (Some (better was late)) was ≡ Some s → BestAt p s (Here d ∷ before)
best_sample p q d before was s late is at h false b e = best_before p s d before (ap (λ k. started_after k (Here d ∷ before) (started before)) (sym is)) (h e)
best_sample p q d before was s late is at h true b e = elim (better_is was late s (some_is (better was late) s e)) [
  | inr k ↦ best_before p s d before (ap (λ k. started_after k (Here d ∷ before) (started before)) (sym is)) (h k)
  | inl k ↦ subst (λ (z : Sampled). BestAt p z (Here d ∷ before)) k (record {
    did = d;
    rest = before;
    is = at;
    place = inl refl;
    deed = sym is ∙ ap (λ r. Acts (Sample r late.counter late.diff late.err late.ticket)) (same_peer q p b);
    round = sym (ap (λ k. started_after k (Here d ∷ before) (started before)) (sym is));
  })
]

best_deed : (p : PeerId) (d : Did) (before : List Seen) (s : Sampled) (deed : Deed) → deed ≡ d.deed → (best p before ≡ Some s → BestAt p s before) →
    best_after p deed (Here d ∷ before) before (best p before) ≡ Some s → BestAt p s (Here d ∷ before)
best_deed p d before s (Acts Boot) is h e = let bad : ⊥ = cc in absurd bad
best_deed p d before s (Acts (Become r)) is h e = let bad : ⊥ = cc in absurd bad
best_deed p d before s (Acts (Arm CloseAlarm at)) is h e = let bad : ⊥ = cc in absurd bad
best_deed p d before s (Acts (Sample q counter diff err ticket)) is h e = best_sample p q d before (best p before) s _ is refl h (q.0 == p.0) refl e
best_deed p d before s deed is h e = best_before p s d before (ap (λ k. started_after k (Here d ∷ before) (started before)) (sym is)) (h e)

pub best_at : (p : PeerId) (seen : List Seen) (s : Sampled) → best p seen ≡ Some s → BestAt p s seen
best_at p [] s e = let bad : ⊥ = cc in absurd bad
best_at p (Elsewhere d ∷ before) s e = let b = best_at p before s e in record {
  did = b.did;
  rest = b.rest;
  is = b.is;
  place = inr b.place;
  deed = b.deed;
  round = b.round;
}
best_at p (Here d ∷ before) s e = best_deed p d before s d.deed refl (λ k. best_at p before s k) e

closed_deed : (d : Did) (before : List Seen) (close : Did) (past : List Seen) (deed : Deed) →
    (closed before ≡ Here close ∷ past → Within (Here close ∷ past) before) → closed_after deed (Here d ∷ before) (closed before) ≡ Here close ∷ past →
    Within (Here close ∷ past) (Here d ∷ before)
closed_deed d before close past Begins h e = nil_cons (Here close) past e
closed_deed d before close past (Acts (Close count lo size mean)) h e = inl (sym e)
closed_deed d before close past _ h e = inr (h e)

pub closed_at : (seen : List Seen) (close : Did) (past : List Seen) → closed seen ≡ Here close ∷ past → Within (Here close ∷ past) seen
closed_at [] close past e = nil_cons (Here close) past e
closed_at (Elsewhere d ∷ before) close past e = inr (closed_at before close past e)
closed_at (Here d ∷ before) close past e = closed_deed d before close past d.deed (closed_at before close past) e
