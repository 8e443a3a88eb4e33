-- What a Sample makes of what a master stands for.
use Rattle.std.proofs.Common.{◌≡◌, ℕ, ◌==◌, ◌&&◌, Bool, true, false, if◌then◌else◌, List, [], ◌∷◌, ◌++◌, Option, Some, None, ℤ, ◌-ℤ◌, int_lt, eqb-true, eq-eqb}
use Rattle.std.proofs.Common.{refl, sym, ◌∙◌, ap, subst}
use Rattle.std.specs.{List.fold, Option.option_map}
use Rattle.tsp_rules.specs.Values.{Sample, PeerId}
use Rattle.tsp_base.specs.Words.{Past, Seen, plain, Within, target, OpenRequest, Sampled, best, better, exchange, is_going, request_at_place, request_open}
use Rattle.tsp_base.specs.Words.{started, target_there, word_asked, grown}
use Rattle.tsp_base.proofs.SendLemmas.{seen_act}
use Rattle.tsp_measure.specs.declared.sample.TimedSample.{TimedSample}
use Rattle.tsp_measure.specs.Measures.{Measured, IsAnswered, best_of, timed_sample, better as better_timed}
use Rattle.tsp_measure.specs.Rounds.{AreApart, measured_with, pending_at, request_of, timed_of}
use Rattle.tsp_measure.specs.{Slaves.entry_of, Slaves.peers_of, declared.sample.Sample.Sample as SampleStruct}
use Rattle.tsp_measure.proofs.Counters.{asks_counter, pending_at_found, pending_at_remove}
use Rattle.tsp_master.specs.{MasterStands.IsOfRound, MasterStands.MasterStands, declared.master.Master.Master}

-- an open request is answered
request_open_sampled : (p q : PeerId) (k c : ℕ) (diff err : ℤ) (ticket : ℕ) (past : Past) (x : ℕ) →
    request_open q c (seen_act past.step x (Sample p k diff err ticket) ∷ past.seen) ≡ (if (p.0 == q.0) && (k == c) then None else request_open q c past.seen)
request_open_sampled p q k c diff err ticket past x = by_test ((p.0 == q.0) && (k == c)) where
  by_test : (b : Bool) → request_at_place (if b then [] else exchange q c past.seen) ≡ (if b then None else request_open q c past.seen)
  by_test true = refl
  by_test false = refl

target_of_place : (place : List Seen) (r : OpenRequest) → request_at_place place ≡ Some r → target_there place ≡ r.target
target_of_place [] r e = let bad : ⊥ = cc in absurd bad
target_of_place (s ∷ before) r e = let same : record { word = word_asked (s ∷ before); target = target_there (s ∷ before) } ≡ r = cc in
    ap (λ (t : OpenRequest). t.target) same

fold_push : (f : Option TimedSample → TimedSample → Option TimedSample) (z : Option TimedSample) (samples : List TimedSample) (t : TimedSample) →
    fold f z (samples ++ t ∷ []) ≡ f (fold f z samples) t
fold_push f z [] t = refl
fold_push f z (u ∷ samples) t = fold_push f (f z u) samples t

best_of_push : (samples : List TimedSample) (t : TimedSample) → best_of (samples ++ t ∷ []) ≡ better_timed (best_of samples) t
best_of_push samples t = fold_push better_timed None samples t

better_timed_holds : (was : Option Sampled) (late : Sampled) → Some (timed_of (better was late)) ≡ better_timed (option_map timed_of was) (timed_of late)
better_timed_holds None late = refl
better_timed_holds (Some early) late = by_test (int_lt late.trip early.trip) where
  by_test : (b : Bool) → Some (timed_of (if b then late else early)) ≡ (if b then Some (timed_of late) else Some (timed_of early))
  by_test true = refl
  by_test false = refl

opened_sampled : (p q : PeerId) (k c : ℕ) (diff err : ℤ) (ticket : ℕ) (past : Past) (x : ℕ) (post : Seen) (older : List Seen) →
    ((t : Seen) (rest : List Seen) → exchange q c past.seen ≡ t ∷ rest → Within (started past.seen) rest) →
    exchange q c (seen_act past.step x (Sample p k diff err ticket) ∷ past.seen) ≡ post ∷ older → Within (started past.seen) older
opened_sampled p q k c diff err ticket past x post older opened e = by_test ((p.0 == q.0) && (k == c)) e where
  by_test : (b : Bool) → (if b then [] else exchange q c past.seen) ≡ post ∷ older → Within (started past.seen) older
  by_test true f = let bad : ⊥ = cc in absurd bad
  by_test false f = opened post older f

none_open : (place : List Seen) (r : OpenRequest) → request_at_place place ≡ Some r → place ≡ [] → ⊥
none_open [] r e f = cc
none_open (s ∷ before) r e f = cc

-- the better of two samples is one of them
of_better : {start : List Seen} {q : PeerId} (was : Option Sampled) (late t : Sampled) → ((u : Sampled) → was ≡ Some u → IsOfRound q u start) →
    IsOfRound q late start → Some (better was late) ≡ Some t → IsOfRound q t start
of_better {start = start} {q = q} None late t known fresh e = let same : late ≡ t = cc in subst (λ u. IsOfRound q u start) same fresh
of_better {start = start} {q = q} (Some early) late t known fresh e = by_test (int_lt late.trip early.trip) e where
  by_test : (b : Bool) → Some (if b then late else early) ≡ Some t → IsOfRound q t start
  by_test true f = let same : late ≡ t = cc in subst (λ u. IsOfRound q u start) same fresh
  by_test false f = let same : early ≡ t = cc in subst (λ u. IsOfRound q u start) same (known early refl)

-- an exchange of a going round is answered
pub MasterStands_samples : (p : PeerId) (w c ticket : ℕ) (s d : ℤ) (answer : SampleStruct) (x : ℕ) (past : Past) (old new : Master) → is_going past.seen ≡
    true → d ≡ target (plain past.seen) x → AreApart (measured_with old.rounds p).pending →
    IsAnswered w c ticket s d (measured_with old.rounds p) (measured_with new.rounds p) answer → ((q : PeerId) → (q.0 ≡ p.0 → ⊥) → measured_with new.rounds q ≡
    measured_with old.rounds q) →
    new.rounds.asked ≡ old.rounds.asked → new.rounds.probes ≡ old.rounds.probes → new.slaves ≡ old.slaves → MasterStands past old →
    MasterStands (grown x past (Sample p answer.counter answer.diff answer.err answer.ticket ∷ [])) new
MasterStands_samples p w c ticket s d answer x past old new goes d_is apart i others asked_is probes_is ss h = record {
  peers = ap peers_of ss ∙ h.peers;
  entries = λ q. ap (λ es. entry_of es q) ss ∙ h.entries q;
  asked_is = asked_is ∙ h.asked_is;
  going = λ g. let r = h.going g in record {
    requests = λ q k. request_open_sampled p q answer.counter k answer.diff answer.err answer.ticket past x ∙ by_peer q k (p.0 == q.0) refl (r.requests q k);
    samples = λ q. by_sample q (p.0 == q.0) refl (r.samples q) (r.requests p c);
    probes_is = probes_is ∙ r.probes_is;
    opened = λ q k post older e. opened_sampled p q answer.counter k answer.diff answer.err answer.ticket past x post older (r.opened q k) e;
    recent = λ q t e. by_recent q t (p.0 == q.0) refl (r.recent q) (r.opened p c) (r.requests p c) e;
  };
  idle = λ g. let bad : ⊥ = cc in absurd bad;
  probing = h.probing;
  empty = h.empty;
} where
  taken : TimedSample
  taken = timed_sample i.exchange.a s d ticket c

  told : answer ≡ taken.sample
  told = i.told

  counter_is : answer.counter ≡ c
  counter_is = ap (λ (t : SampleStruct). t.counter) i.told

  was : AreApart (i.before ++ i.exchange ∷ i.after)
  was = subst AreApart i.was_pending apart

  other : (q : PeerId) → (p.0 == q.0) ≡ false → q.0 ≡ p.0 → ⊥
  other q e same = let t : (p.0 == q.0) ≡ true = eq-eqb p.0 q.0 (sym same) in let bad : ⊥ = cc in bad

  by_peer : (q : PeerId) (k : ℕ) (b : Bool) → (p.0 == q.0) ≡ b → request_open q k past.seen ≡ pending_at k (measured_with old.rounds q).pending →
      (if b && (answer.counter == k) then None else request_open q k past.seen) ≡ pending_at k (measured_with new.rounds q).pending
  by_peer q k true e r =
      let it : p ≡ q = ap (λ n. record { 0 = n }) (eqb-true p.0 q.0 e) in
      let r_p : request_open q k past.seen ≡ pending_at k (i.before ++ i.exchange ∷ i.after) = r ∙
      ap (λ (t : PeerId). pending_at k (measured_with old.rounds t).pending) (sym it) ∙ ap (pending_at k) i.was_pending in
      ap (λ n. if n == k then None else request_open q k past.seen) (counter_is ∙ sym (asks_counter w c i.exchange i.asked))
      ∙ ap (λ o. if i.exchange.counter == k then None else o) r_p
      ∙ sym (pending_at_remove k i.before i.exchange i.after was)
      ∙ ap (pending_at k) (sym i.is_pending) ∙ ap (λ (t : PeerId). pending_at k (measured_with new.rounds t).pending) it
  by_peer q k false e r = r ∙ ap (λ (m : Measured). pending_at k m.pending) (sym (others q (other q e)))

  by_place : (q : PeerId) (t : Sampled) (place : List Seen) → exchange q t.counter past.seen ≡ place → t.place ≡
      seen_act past.step x (Sample p answer.counter answer.diff answer.err answer.ticket) ∷ past.seen → (place ≡ [] → ⊥) →
      ((post : Seen) (older : List Seen) → exchange q t.counter past.seen ≡ post ∷ older → Within (started past.seen) older) → IsOfRound q t (started past.seen)
  by_place q t [] e is n opened = absurd (n refl)
  by_place q t (post ∷ older) e is n opened = record {
    taken = seen_act past.step x (Sample p answer.counter answer.diff answer.err answer.ticket);
    before = past.seen;
    place_is = is;
    post = post;
    older = older;
    exchange_is = e;
    since = opened post older e;
  }

  -- the sample that comes
  late : PeerId → Sampled
  late q = record {
    counter = answer.counter;
    diff = answer.diff;
    err = answer.err;
    ticket = answer.ticket;
    trip = target (plain past.seen) x -ℤ target_there (exchange q answer.counter past.seen);
    place = seen_act past.step x (Sample p answer.counter answer.diff answer.err answer.ticket) ∷ past.seen;
  }

  by_recent : (q : PeerId) (t : Sampled) (b : Bool) → (p.0 == q.0) ≡ b → ((u : Sampled) → best q past.seen ≡ Some u → IsOfRound q u (started past.seen)) →
      ((post : Seen) (older : List Seen) → exchange p c past.seen ≡ post ∷ older → Within (started past.seen) older) →
      request_open p c past.seen ≡ pending_at c (measured_with old.rounds p).pending →
      (if b then Some (better (best q past.seen) (late q)) else best q past.seen) ≡ Some t → IsOfRound q t (started past.seen)
  by_recent q t true e known opened r f =
      let it : p ≡ q = ap (λ n. record { 0 = n }) (eqb-true p.0 q.0 e) in
      let found : request_open p c past.seen ≡ Some (request_of i.exchange) = r ∙ ap (pending_at c) i.was_pending ∙
      ap (λ n. pending_at n (i.before ++ i.exchange ∷ i.after)) (sym (asks_counter w c i.exchange i.asked)) ∙
      pending_at_found i.before i.exchange i.after was in
      let there : exchange q answer.counter past.seen ≡ exchange p c past.seen = ap (λ (u : PeerId). exchange u answer.counter past.seen) (sym it) ∙
      ap (λ n. exchange p n past.seen) counter_is in
      let fresh : IsOfRound q (late q) (started past.seen) = by_place q (late q) (exchange q answer.counter past.seen) refl refl
      (λ none. let bad : ⊥ = none_open (exchange p c past.seen) (request_of i.exchange) found (sym there ∙ none) in
      bad) (λ post older g. opened post older (sym there ∙ g)) in
      of_better (best q past.seen) (late q) t known fresh f
  by_recent q t false e known opened r f = known t f

  by_sample : (q : PeerId) (b : Bool) → (p.0 == q.0) ≡ b → option_map timed_of (best q past.seen) ≡ best_of (measured_with old.rounds q).samples →
      request_open p c past.seen ≡ pending_at c (measured_with old.rounds p).pending →
      option_map timed_of (if b then Some (better (best q past.seen) (late q)) else best q past.seen)
      ≡ best_of (measured_with new.rounds q).samples
  by_sample q true e b r =
      let it : p ≡ q = ap (λ n. record { 0 = n }) (eqb-true p.0 q.0 e) in
      let found : request_open p c past.seen ≡ Some (request_of i.exchange) = r ∙ ap (pending_at c) i.was_pending ∙
      ap (λ n. pending_at n (i.before ++ i.exchange ∷ i.after)) (sym (asks_counter w c i.exchange i.asked)) ∙
      pending_at_found i.before i.exchange i.after was in
      let there : target_there (exchange q answer.counter past.seen) ≡ i.exchange.a =
      ap (λ (t : PeerId). target_there (exchange t answer.counter past.seen)) (sym it) ∙ ap (λ n. target_there (exchange p n past.seen)) counter_is ∙
      target_of_place (exchange p c past.seen) (request_of i.exchange) found in
      let trip : target (plain past.seen) x -ℤ target_there (exchange q answer.counter past.seen) ≡ d -ℤ i.exchange.a =
      ap (λ z. z -ℤ target_there (exchange q answer.counter past.seen)) (sym d_is) ∙ ap (λ z. d -ℤ z) there in
      let by_trip : timed_of (late q) ≡ record { sample = answer; trip = d -ℤ i.exchange.a } = ap (λ z. record { sample = answer; trip = z }) trip in
      let timed : timed_of (late q) ≡ taken = by_trip ∙ ap (λ k. record { sample = k; trip = d -ℤ i.exchange.a }) told in
      better_timed_holds (best q past.seen) (late q)
      ∙ ap (λ t. better_timed (option_map timed_of (best q past.seen)) t) timed
      ∙ ap (λ o. better_timed o taken) (b ∙ ap (λ (t : PeerId). best_of (measured_with old.rounds t).samples) (sym it))
      ∙ sym (best_of_push (measured_with old.rounds p).samples taken) ∙ ap best_of (sym i.samples) ∙
      ap (λ (t : PeerId). best_of (measured_with new.rounds t).samples) it
  by_sample q false e b r = b ∙ ap (λ (m : Measured). best_of m.samples) (sym (others q (other q e)))
