-- What the repeating of a due send makes of a station.
use Rattle.std.proofs.Common.{sym, ◌∙◌, ap, arith, eqb-true, ◌≡◌, ℕ, ◌<◌, ◌+◌, ◌%◌, ◌==◌, ◌&&◌, Bool, true, false, if◌then◌else◌, List, [], ◌∷◌, ◌++◌, Option}
use Rattle.std.proofs.Common.{Some, None, refl}
use Rattle.std.{proofs.Math.Bool.and-false, proofs.lemmas.List.length-map, proofs.lemmas.List.get_or-map, specs.List.Contains}
use Rattle.tsp_rules.specs.Values.{Act, Boot, Post, Become, Acked, Gave, Placed, Message, PeerId, Peer, Port}
use Rattle.tsp_base.specs.Words.{Deed, Acts, Step, Past, Seen, Here, Elsewhere, MessageValue, Performs, acting, grown, nothing, puts, again, begun}
use Rattle.tsp_base.specs.Words.{has_own_number, is_given_up, is_numbered, message_at, message_of, open_send, open_to, open_to_after, posts_of, Sending}
use Rattle.tsp_base.specs.Words.{sending_at, sending_of}
use Rattle.tsp_base.proofs.PerformsLemmas.{Performs_else_part, Performs_reading, Performs_then_part}
use Rattle.tsp_base.proofs.SendLemmas.{seen_act, open_send_gave, open_send_repeats}
use Rattle.tsp_rules.specs.SendRows.{bare_send, is_send_due, is_spent, open_at, repeats, repeats_bare_send}
use Rattle.tsp_sends.specs.declared.due.Due.TheVariants.{Again, Gave as GaveUp}
use Rattle.tsp_sends.specs.{Slots.peers_of, Slots.sending_to, Slots.SetsOnly, declared.due.Due.Due, declared.slot.Slot.Slot}
use Rattle.tsp_sends.specs.Repeating.{IsAfter, is_due_send, peer_of, repeated, RepeatsNext}
use Rattle.tsp_sends.proofs.SlotLemmas.{sending_to_found}
use Rattle.tsp_acks.specs.{Changes.ChangesSends, Stands.StandsStill, declared.station.Station.Station}

-- no message, or one that is a numbered send
abbrev IsNumbered : Option MessageValue → Type 0
IsNumbered None = Unit {0}
IsNumbered (Some m) = is_numbered m.kind ≡ true

IsNumbered_after : (p : PeerId) (deed : Deed) (acts : Bool) (here was : List Seen) → message_at here ≡ message_of deed → IsNumbered (message_at was) →
    IsNumbered (message_at (open_to_after p deed acts here was))
IsNumbered_after p (Acts Boot) acts here was is k = tt
IsNumbered_after p (Acts (Become r)) acts here was is k = tt
IsNumbered_after p (Acts (Post (Peer q) (Message m))) acts here was is k = by_test (q.0 == p.0) acts (is_numbered m.kind) refl where
  by_test : (b acts n : Bool) → is_numbered m.kind ≡ n → IsNumbered (message_at (if b && (n && acts) then here else was))
  by_test true true true e = rw is e
  by_test true false true e = k
  by_test true acts false e = k
  by_test false acts n e = k
IsNumbered_after p (Acts (Acked q)) acts here was is k = by_test (q.0 == p.0) where
  by_test : (b : Bool) → IsNumbered (message_at (if b then [] else was))
  by_test true = tt
  by_test false = k
IsNumbered_after p (Acts (Gave q)) acts here was is k = by_test (q.0 == p.0) where
  by_test : (b : Bool) → IsNumbered (message_at (if b then [] else was))
  by_test true = tt
  by_test false = k
IsNumbered_after p _ acts here was is k = k

IsNumbered_place : (p : PeerId) (seen : List Seen) → IsNumbered (message_at (open_to p seen))
IsNumbered_place p [] = tt
IsNumbered_place p (Here d ∷ before) = IsNumbered_after p d.deed (acting before) (Here d ∷ before) (open_to p before) refl (IsNumbered_place p before)
IsNumbered_place p (Elsewhere d ∷ before) = IsNumbered_place p before

-- the message of an open send is a numbered one
pub open_send_numbered : (p : PeerId) (seen : List Seen) (s : Sending) → open_send p seen ≡ Some s → is_numbered s.message.kind ≡ true
open_send_numbered p seen s e = at_place (open_to p seen) (posts_of p seen) (IsNumbered_place p seen) e where
  of_message : (m : Option MessageValue) (x n : ℕ) → IsNumbered m → sending_of m x n ≡ Some s → is_numbered s.message.kind ≡ true
  of_message None x n k e = let bad : ⊥ = cc in absurd bad
  of_message (Some m) x n k e = let same : m ≡ s.message = cc in rw (← same) k

  at_place : (place : List Seen) (n : ℕ) → IsNumbered (message_at place) → sending_at place n ≡ Some s → is_numbered s.message.kind ≡ true
  at_place [] n k e = let bad : ⊥ = cc in absurd bad
  at_place (Here d ∷ before) n k e = of_message (message_of d.deed) d.tick n k e
  at_place (Elsewhere d ∷ before) n k e = of_message (message_of d.deed) d.tick n k e

-- a send is given up
pub StandsStill_gave : (p : PeerId) (x : ℕ) (past : Past) (before after : Station) → ChangesSends before after → after.begun ≡ before.begun →
    SetsOnly p None before.sends after.sends → StandsStill past before → StandsStill (grown x past (Gave p ∷ [])) after
StandsStill_gave p x past before after t count only h = record {
  stands = record {
    own = ap (λ i. i.own) t.me ∙ h.stands.own;
    name = ap (λ i. i.name) t.me ∙ h.stands.name;
    may = ap (λ i. i.may) t.me ∙ h.stands.may;
    strict = ap (λ i. i.strict) t.me ∙ h.stands.strict;
    peers = t.peers ∙ h.stands.peers;
    word = ap (λ i. i.word) t.me ∙ h.stands.word;
    role = t.role ∙ h.stands.role;
    alarms = t.alarms ∙ h.stands.alarms;
    hold = t.hold ∙ h.stands.hold;
    sends = λ q. only q ∙ ap (λ o. if p.0 == q.0 then None else o) (h.stands.sends q) ∙ sym (open_send_gave past.step x q p past.seen);
    begun = count ∙ h.stands.begun;
    backers = t.backers ∙ h.stands.backers;
  };
  still = h.still;
}

-- a repeat begins no send
begun_repeats : (step : Step) (x : ℕ) (p : PeerId) (m : MessageValue) (seen : List Seen) → acting seen ≡ false →
    begun (seen_act step x (Post (Peer p) (Message m)) ∷ seen) ≡ begun seen
begun_repeats step x p m seen still = rw (still, and-false (has_own_number m.kind)) refl

-- the open send to p has one post more
again_only : (p q : PeerId) (s : Sending) (was : Option Sending) (b : Bool) → (p.0 == q.0) ≡ b → (p ≡ q → was ≡ Some s) →
    (if b then Some (record s { posts = s.posts + 1 }) else was) ≡ (if b then again was else was)
again_only p q s was true e k =
    let same : p ≡ q = ap (λ n. record { 0 = n }) (eqb-true p.0 q.0 e) in
    sym (ap again (k same))
again_only p q s was false e k = refl

-- a send is posted again
pub StandsStill_repeats : (p : PeerId) (s : Sending) (x : ℕ) (past : Past) (before after : Station) → sending_to before.sends p ≡ Some s →
    ChangesSends before after → after.begun ≡ before.begun
    → SetsOnly p (Some (record s { posts = s.posts + 1 })) before.sends after.sends → StandsStill past before →
    StandsStill (grown x past (Post (Peer p) (Message s.message) ∷ [])) after
StandsStill_repeats p s x past before after is t count only h =
    let open_is : open_send p past.seen ≡ Some s = sym (h.stands.sends p) ∙ is in
    record {
      stands = record {
        own = ap (λ i. i.own) t.me ∙ h.stands.own;
        name = ap (λ i. i.name) t.me ∙ h.stands.name;
        may = ap (λ i. i.may) t.me ∙ h.stands.may;
        strict = ap (λ i. i.strict) t.me ∙ h.stands.strict;
        peers = t.peers ∙ h.stands.peers;
        word = ap (λ i. i.word) t.me ∙ h.stands.word;
        role = t.role ∙ h.stands.role;
        alarms = t.alarms ∙ h.stands.alarms;
        hold = t.hold ∙ h.stands.hold;
        sends = λ q.
            only q ∙ again_only p q s (sending_to before.sends q) (p.0 == q.0) refl (λ same. ap (sending_to before.sends) (sym same) ∙ is)
            ∙ ap (λ o. if p.0 == q.0 then again o else o) (h.stands.sends q)
            ∙ sym (open_send_repeats past.step x q p s.message past.seen (open_send_numbered p past.seen s open_is) h.still);
        backers = t.backers ∙ h.stands.backers;
        begun = count ∙ h.stands.begun ∙ ap (λ n. n % 32768) (sym (begun_repeats past.step x p s.message past.seen h.still));
      };
      still = h.still;
    }

-- what is put for a due send
abbrev pub act_of : Due → Act
act_of (Again p m) = Post (Peer p) (Message m)
act_of (GaveUp p k) = Gave p

peer_of_repeated : (p : PeerId) (x : ℕ) (s : Sending) → peer_of (repeated p x s) ≡ p
peer_of_repeated p x s = by_test (is_given_up s x) where
  by_test : (b : Bool) → peer_of (if b then GaveUp p s.message.kind else Again p s.message) ≡ p
  by_test true = refl
  by_test false = refl

has_slot : (slots : List Slot) (p : PeerId) (s : Sending) → sending_to slots p ≡ Some s → Contains (peers_of slots) p
has_slot slots p s e =
    let w = sending_to_found slots p s e in
    let d : Slot = record { peer = p; sending = None } in (
      w.0,
      omega (arith, w.1, length-map slots (λ (t : Slot). t.peer)),
      get_or-map (λ (t : Slot). t.peer) slots w.0 d p w.1 ∙
          ap (λ n. record { 0 = n }) (w.2 d).0,
    )

-- the next due send is to one of the peers
pub next_peer : (after : Option PeerId) (x : ℕ) (slots new : List Slot) (due : Due) (peers : List PeerId) → RepeatsNext after x slots new (Some due) →
    peers_of slots ≡ peers → Contains peers (peer_of due) × IsAfter after (peer_of due)
next_peer after x slots new due peers t slots_are =
    let is : peer_of due ≡ t.0 = ap peer_of t.3 ∙ peer_of_repeated t.0 x t.1 in
    rw (is, ← slots_are) (has_slot slots t.0 t.1 t.2.sending, t.2.later)

-- a due send is given up
gives_row : (p : PeerId) (s : Sending) (x : ℕ) (port : Port) (before after : Station) (old new : List Placed) → sending_to before.sends p ≡ Some s →
    is_due_send x (Some s) ≡ true → is_given_up s x ≡ true → ChangesSends before after → after.begun ≡ before.begun
    → SetsOnly p None before.sends after.sends → new ≡ old ++ record { port = port; act = Gave p } ∷ [] →
    Performs StandsStill StandsStill (bare_send p) x port before after old new
unfolding bare_send repeats_bare_send puts
gives_row p s x port before after old new is due spent t count only put =
    Performs_reading (open_at p) (repeats_bare_send p) (Some s) (λ past h. sym (h.stands.sends p) ∙ is)
    (Performs_then_part (is_send_due s) nothing (λ past h. due)
    (Performs_then_part (is_spent s) (repeats p s.message) (λ past h. spent)
    (record { acts = λ past h. put; stands = λ past h. StandsStill_gave p x past before after t count only h })))

-- a due send is posted again
repeats_row : (p : PeerId) (s : Sending) (x : ℕ) (port : Port) (before after : Station) (old new : List Placed) → sending_to before.sends p ≡ Some s →
    is_due_send x (Some s) ≡ true → is_given_up s x ≡ false → ChangesSends before after → after.begun ≡ before.begun
    → SetsOnly p (Some (record s { posts = s.posts + 1 })) before.sends after.sends → new ≡ old ++
    record { port = port; act = Post (Peer p) (Message s.message) } ∷ []
    → Performs StandsStill StandsStill (bare_send p) x port before after old new
unfolding bare_send repeats_bare_send repeats puts
repeats_row p s x port before after old new is due fresh t count only put =
    Performs_reading (open_at p) (repeats_bare_send p) (Some s) (λ past h. sym (h.stands.sends p) ∙ is)
    (Performs_then_part (is_send_due s) nothing (λ past h. due)
    (Performs_else_part (is_spent s) (puts (Gave p)) (λ past h. fresh)
    (record { acts = λ past h. put; stands = λ past h. StandsStill_repeats p s x past before after is t count only h })))

-- the next due send is repeated as the row of its peer says
pub Performs_due : (last : Option PeerId) (x : ℕ) (port : Port) (due : Due) (before after : Station) (old new : List Placed) →
    RepeatsNext last x before.sends after.sends (Some due) → ChangesSends before after → after.begun ≡ before.begun
    → new ≡ old ++ record { port = port; act = act_of due } ∷ [] → Performs StandsStill StandsStill (bare_send (peer_of due)) x port before after old new
Performs_due last x port due before after old new t rest count put = rw is (by_test (is_given_up t.1 x) refl t.3 t.4) where
  is : peer_of due ≡ t.0
  is = ap peer_of t.3 ∙ peer_of_repeated t.0 x t.1

  by_test : (b : Bool) → is_given_up t.1 x ≡ b → due ≡ (if b then GaveUp t.0 t.1.message.kind else Again t.0 t.1.message)
      → SetsOnly t.0 (if b then None else Some (record t.1 { posts = t.1.posts + 1 })) before.sends after.sends →
      Performs StandsStill StandsStill (bare_send t.0) x port before after old new
  by_test true b e only = gives_row t.0 t.1 x port before after old new t.2.sending t.2.due b rest count only (put ∙
      ap (λ d. old ++ record { port = port; act = act_of d } ∷ []) e)
  by_test false b e only = repeats_row t.0 t.1 x port before after old new t.2.sending t.2.due b rest count only (put ∙
      ap (λ d. old ++ record { port = port; act = act_of d } ∷ []) e)

-- no peer before the next one with a due send has one, and none has where there is no next one
pub none_before : (after : Option PeerId) (x : ℕ) (slots new : List Slot) (due : Due) → RepeatsNext after x slots new (Some due) → (q : PeerId) →
    IsAfter after q → q.0 < (peer_of due).0 → is_due_send x (sending_to slots q) ≡ false
none_before after x slots new due t q later below =
    let is : peer_of due ≡ t.0 = ap peer_of t.3 ∙ peer_of_repeated t.0 x t.1 in
    t.2.first q later (rw (← is) below)
