-- What the acts of a round make of what a master stands for.
use Rattle.std.proofs.Common.{◌≡◌, ℕ, ◌+◌, ◌%◌, ◌^◌, ◌==◌, ◌&&◌, Bool, true, false, if◌then◌else◌, List, [], ◌∷◌, Some, None, eqb-true, eq-eqb, inl, inr, refl}
use Rattle.std.proofs.Common.{sym, ◌∙◌, ap, subst, arith}
use Rattle.std.proofs.lemmas.Bool.{false≢true}
use Rattle.tsp_rules.specs.Values.{Boot, Post, Arm, Ring, Late, Abandon, Probe, CloseAlarm, Stamp, PeerId, Peer, Request}
use Rattle.tsp_base.specs.Words.{Acts, Deed, Elsewhere, Here, Past, Seen, plain, Within, target, word, armed, asked, exchange, is_going, request_at_place}
use Rattle.tsp_base.specs.Words.{request_open, started, started_after, grown}
use Rattle.tsp_base.proofs.SendLemmas.{seen_act}
use Rattle.tsp_measure.specs.{Measures.Measured, Measures.best_of, Slaves.entry_of, Slaves.peers_of, declared.exchange.Exchange.Exchange}
use Rattle.tsp_measure.specs.Rounds.{RoundsValue, Starts, measured_with, pending_at, request_of}
use Rattle.tsp_measure.proofs.Counters.{pending_at_push}
use Rattle.tsp_master.specs.{MasterStands.MasterStands, declared.master.Master.Master}
use Rattle.tsp_master.proofs.MasterLemmas.{EmptyAfter, EntriesAfter}

-- a round ends
pub MasterStands_ring_close : (x : ℕ) (past : Past) (m : Master) → (armed past.seen).probe ≡ None → MasterStands past m →
    MasterStands (grown x past (Ring CloseAlarm ∷ [])) m
MasterStands_ring_close x past m none h = record {
  peers = h.peers;
  entries = h.entries;
  asked_is = h.asked_is;
  going = λ g. absurd (false≢true g);
  idle = λ g p c. refl;
  probing = λ at e. let bad : ⊥ = cc in absurd bad;
  empty = h.empty;
}

pub MasterStands_late_close : (x : ℕ) (past : Past) (m : Master) → (armed past.seen).probe ≡ None → MasterStands past m →
    MasterStands (grown x past (Late CloseAlarm ∷ [])) m
MasterStands_late_close x past m none h = record {
  peers = h.peers;
  entries = h.entries;
  asked_is = h.asked_is;
  going = λ g. absurd (false≢true g);
  idle = λ g p c. refl;
  probing = λ at e. let bad : ⊥ = cc in absurd bad;
  empty = h.empty;
}

pub MasterStands_abandon : (x : ℕ) (past : Past) (m : Master) → MasterStands past m → MasterStands (grown x past (Abandon ∷ [])) m
MasterStands_abandon x past m h = record {
  peers = h.peers;
  entries = h.entries;
  asked_is = h.asked_is;
  going = λ g. absurd (false≢true g);
  idle = λ g p c. refl;
  probing = λ at e. let bad : ⊥ = cc in absurd bad;
  empty = h.empty;
}

-- a probe is late, or in time
pub MasterStands_late_probe : (x : ℕ) (past : Past) (m : Master) → MasterStands past m → MasterStands (grown x past (Late Probe ∷ [])) m
MasterStands_late_probe x past m h = record {
  peers = h.peers;
  entries = h.entries;
  asked_is = h.asked_is;
  going = λ g. let r = h.going g in record { requests = r.requests; samples = r.samples; probes_is = r.probes_is; opened = r.opened; recent = r.recent };
  idle = h.idle;
  probing = λ at e. let bad : ⊥ = cc in absurd bad;
  empty = h.empty;
}

pub MasterStands_ring_probe : (x : ℕ) (past : Past) (old new : Master) → new.slaves ≡ old.slaves → new.rounds ≡
    record old.rounds { probes = old.rounds.probes + 1 } → MasterStands past old → MasterStands (grown x past (Ring Probe ∷ [])) new
MasterStands_ring_probe x past old new ss rs h = record {
  peers = ap peers_of ss ∙ h.peers;
  entries = λ p. ap (λ es. entry_of es p) ss ∙ h.entries p;
  asked_is = ap (λ (v : RoundsValue). v.asked) rs ∙ h.asked_is;
  going = λ g. let r = h.going g in rw rs (record {
    requests = r.requests;
    samples = r.samples;
    probes_is = ap (λ n. n + 1) r.probes_is;
    opened = r.opened;
    recent = r.recent;
  });
  idle = h.idle;
  probing = λ at e. let bad : ⊥ = cc in absurd bad;
  empty = h.empty;
}

-- an open request after one more
request_open_asked : (p q : PeerId) (w k c : ℕ) (past : Past) (x : ℕ) →
    request_open q c (seen_act past.step x (Post (Peer p) (Stamp (Request w k))) ∷ past.seen) ≡
    (if (p.0 == q.0) && (k == c) then Some (record { word = w; target = target (plain past.seen) x }) else request_open q c past.seen)
request_open_asked p q w k c past x = by_test ((p.0 == q.0) && (k == c)) where
  by_test : (b : Bool) → request_at_place (if b then seen_act past.step x (Post (Peer p) (Stamp (Request w k))) ∷ past.seen else exchange q c past.seen)
      ≡ (if b then Some (record { word = w; target = target (plain past.seen) x }) else request_open q c past.seen)
  by_test true = refl
  by_test false = refl

Within_nil : (seen : List Seen) → Within [] seen
Within_nil [] = refl
Within_nil (s ∷ before) = inr (Within_nil before)

-- it stands after the start of the round, as all do
Within_started : (seen : List Seen) → Within (started seen) seen
Within_started [] = refl
Within_started (Here d ∷ before) = by_deed d.deed (Within_started before) where
  by_deed : (deed : Deed) → Within (started before) before → Within (started_after deed (Here d ∷ before) (started before)) (Here d ∷ before)
  by_deed (Acts Boot) w = Within_nil (Here d ∷ before)
  by_deed (Acts (Arm CloseAlarm at)) w = inl refl
  by_deed (Acts (Arm _ at)) w = inr w
  by_deed _ w = inr w
Within_started (Elsewhere d ∷ before) = inr (Within_started before)

opened_asked : (p q : PeerId) (w k c : ℕ) (past : Past) (x : ℕ) (post : Seen) (older : List Seen) → ((t : Seen) (rest : List Seen) → exchange q c past.seen ≡
    t ∷ rest → Within (started past.seen) rest) →
    exchange q c (seen_act past.step x (Post (Peer p) (Stamp (Request w k))) ∷ past.seen) ≡ post ∷ older → Within (started past.seen) older
opened_asked p q w k c past x post older opened e = by_test ((p.0 == q.0) && (k == c)) e where
  by_test : (b : Bool) → (if b then seen_act past.step x (Post (Peer p) (Stamp (Request w k))) ∷ past.seen else exchange q c past.seen) ≡ post ∷ older →
      Within (started past.seen) older
  by_test true f = let same : past.seen ≡ older = cc in subst (Within (started past.seen)) same (Within_started past.seen)
  by_test false f = opened post older f

-- a request is posted in a going round
pub MasterStands_asks : (p : PeerId) (x : ℕ) (past : Past) (old new : Master) → is_going past.seen ≡ true →
    Starts p (word (plain past.seen)) (target (plain past.seen) x) old.rounds new.rounds → peers_of new.slaves ≡ peers_of old.slaves →
    EntriesAfter past x (Post (Peer p) (Stamp (Request (word (plain past.seen)) (asked past.seen % 2 ^ 64)))) new →
    EmptyAfter past x (Post (Peer p) (Stamp (Request (word (plain past.seen)) (asked past.seen % 2 ^ 64)))) →
    MasterStands past old → MasterStands (grown x past (Post (Peer p) (Stamp (Request (word (plain past.seen)) (asked past.seen % 2 ^ 64))) ∷ [])) new
MasterStands_asks p x past old new goes s ps es em h = record {
  peers = ps ∙ h.peers;
  entries = es;
  asked_is = s.asked ∙ ap (λ n. (n + 1) % 2 ^ 64) h.asked_is ∙ turn (asked past.seen);
  going = λ g. let r = h.going g in record {
    requests = λ q c. request_open_asked p q (word (plain past.seen)) (asked past.seen % 2 ^ 64) c past x ∙ by_peer q c (p.0 == q.0) refl (r.requests q c);
    samples = λ q. r.samples q ∙ ap best_of (sym (same_samples q (p.0 == q.0) refl));
    probes_is = s.probes ∙ r.probes_is;
    opened = λ q c post older e. opened_asked p q (word (plain past.seen)) (asked past.seen % 2 ^ 64) c past x post older (r.opened q c) e;
    recent = r.recent;
  };
  idle = λ g. let bad : ⊥ = cc in absurd bad;
  probing = h.probing;
  empty = em;
} where
  turn : (n : ℕ) → (n % 2 ^ 64 + 1) % 2 ^ 64 ≡ (n + 1) % 2 ^ 64
  turn n = omega arith

  begun : Exchange
  begun = record { word = word (plain past.seen); counter = old.rounds.asked; a = target (plain past.seen) x }

  other : (q : PeerId) → (p.0 == q.0) ≡ false → q.0 ≡ p.0 → ⊥
  other q e same = let t : (p.0 == q.0) ≡ true = eq-eqb p.0 q.0 (sym same) in let bad : ⊥ = cc in bad

  same_samples : (q : PeerId) (b : Bool) → (p.0 == q.0) ≡ b → (measured_with new.rounds q).samples ≡ (measured_with old.rounds q).samples
  same_samples q true e =
      let it : p ≡ q = ap (λ n. record { 0 = n }) (eqb-true p.0 q.0 e) in
      ap (λ (t : PeerId). (measured_with new.rounds t).samples) (sym it) ∙ ap (λ (m : Measured). m.samples) s.started ∙
      ap (λ (t : PeerId). (measured_with old.rounds t).samples) it
  same_samples q false e = ap (λ (m : Measured). m.samples) (s.others q (other q e))

  by_peer : (q : PeerId) (c : ℕ) (b : Bool) → (p.0 == q.0) ≡ b → request_open q c past.seen ≡ pending_at c (measured_with old.rounds q).pending →
      (if b && (asked past.seen % 2 ^ 64 == c) then Some (record { word = word (plain past.seen); target = target (plain past.seen) x }) else request_open q c
      past.seen) ≡ pending_at c (measured_with new.rounds q).pending
  by_peer q c true e r =
      let it : p ≡ q = ap (λ n. record { 0 = n }) (eqb-true p.0 q.0 e) in
      let r_p : request_open q c past.seen ≡ pending_at c (measured_with old.rounds p).pending = r ∙
      ap (λ (t : PeerId). pending_at c (measured_with old.rounds t).pending) (sym it) in
      ap (λ k. if k == c then Some (request_of begun) else request_open q c past.seen) (sym h.asked_is)
      ∙ ap (λ o. if old.rounds.asked == c then Some (request_of begun) else o) r_p
      ∙ sym (pending_at_push c (measured_with old.rounds p).pending begun s.fresh)
      ∙ ap (pending_at c) (sym (ap (λ (m : Measured). m.pending) s.started)) ∙ ap (λ (t : PeerId). pending_at c (measured_with new.rounds t).pending) it
  by_peer q c false e r = r ∙ ap (λ (m : Measured). pending_at c m.pending) (sym (s.others q (other q e)))

-- the same exchanges, counts and table stand for the same past
pub MasterStands_unasked : (past : Past) (old new : Master) → new.slaves ≡ old.slaves → new.rounds.asked ≡ old.rounds.asked → new.rounds.probes ≡
    old.rounds.probes → ((q : PeerId) → measured_with new.rounds q ≡ measured_with old.rounds q) → MasterStands past old → MasterStands past new
MasterStands_unasked past old new ss asked_is probes_is same h = record {
  peers = ap peers_of ss ∙ h.peers;
  entries = λ q. ap (λ es. entry_of es q) ss ∙ h.entries q;
  asked_is = asked_is ∙ h.asked_is;
  going = λ g. let r = h.going g in record {
    requests = λ q c. r.requests q c ∙ ap (λ (m : Measured). pending_at c m.pending) (sym (same q));
    samples = λ q. r.samples q ∙ ap (λ (m : Measured). best_of m.samples) (sym (same q));
    probes_is = probes_is ∙ r.probes_is;
    opened = r.opened;
    recent = r.recent;
  };
  idle = h.idle;
  probing = h.probing;
  empty = h.empty;
}
