-- Facts of a node and of a port's rounds at alike pasts: word, ticket and clock are the same; ticks are later.
use Rattle.std.proofs.lemmas.Int.{ints}
use Rattle.std.proofs.Common.{if◌then◌else◌, Some, ap, ap₂, arith, sym, true≢false, ◌∙◌, ◌≡◌, ℕ, ◌+◌, ◌-◌, ◌/◌, ◌%◌, ℤ, pos, ◌+ℤ◌, ◌-ℤ◌, true, List, refl, ◌∷◌}
use Rattle.std.proofs.Common.{[], ◌==◌, int_lt, Bool, false, ◌&&◌, Option, None, is_some}
use Rattle.tsp_base.specs.RoundFacts.{is_measured_after, word_asked_by}
use Rattle.tsp_base.specs.Words.{Deed, Begins, Acts, Seen, plain, word, word_after, wall, wall_after, boot_tick, corrects, ticket, moved, target, last_correct}
use Rattle.tsp_base.specs.Words.{eased, rest, rest_at, shown, Step, Did, correct_tick, is_going, is_starting, is_measured, exchange, exchange_after}
use Rattle.tsp_base.specs.Words.{target_there, armed, Sampled, better, best, best_after, request_at_place, request_open, estimate, estimate_of}
use Rattle.tsp_rules.specs.Renames.{Renaming, Naming}
use Rattle.tsp_rules.specs.Values.{Boot, Correct, SLEW, Post, Become, Arm, Ring, Late, Leave, Sample, Abandon, Stamp, CloseAlarm, PeerId, Peer, Request}
use Rattle.tsp_alike.proofs.PortAlike.{armed_alike, Facts, facts_alike, AlikePlaces, Nowhere, There, either_place}
use Rattle.tsp_alike.specs.AlikeNodes.{renamed_deed, is_later, SameBoot}
use Rattle.tsp_alike.proofs.{Alike.Alike, Alike.Booted, Alike.Own, Alike.Other, Alike.here, Renamed.later, Renamed.same_time}

-- a deed of a step
abbrev pub did : Step → ℕ → Deed → Did
did step x deed = record { step = step; tick = x; deed = deed }

-- what two nodes did, the newest first, is alike, whichever ports it was on
pub data AlikeDids (shift : ℕ) : List Did → List Did → Type 0 where
  Began : (s s' : Step) → SameBoot s s' → (x : ℕ) → (old old' : List Did) →
      AlikeDids shift (did s x (Acts Boot) ∷ did s x Begins ∷ old) (did s' (x + shift) (Acts Boot) ∷ did s' (x + shift) Begins ∷ old')
  Later : (n : Renaming) (s s' : Step) (x : ℕ) (d : Deed) → is_later d ≡ true → {before before' : List Did} →
      AlikeDids shift before before' →
      AlikeDids shift (did s x d ∷ before) (did s' (x + shift) (renamed_deed n d) ∷ before')

pub plain_alike : {m : Naming} {seen seen' : List Seen} → Alike m seen seen' → AlikeDids m.names.shift (plain seen) (plain seen')
plain_alike (Booted s s' boot x old old') = Began s s' boot x (plain old) (plain old')
plain_alike {m = m} (Own s s' x d ok knows a) = Later m.names s s' x d ok (plain_alike a)
plain_alike (Other n shift s s' x d ok a) = Later n s s' x d ok (plain_alike a)

module _ {c : ℕ} where
  pub word_alike : {ds ds' : List Did} → AlikeDids c ds ds' → word ds' ≡ word ds
  word_alike (Began s s' boot x old old') =
      ap (λ k. word_after (Acts Boot) k (word old')) boot.second ∙ sym (ap (λ k. word_after (Acts Boot) k (word old)) boot.first)
  word_alike (Later n s s' x (Acts Boot) ok a) = absurd (true≢false (sym ok))
  word_alike (Later n s s' x _ ok a) = word_alike a

  pub wall_alike : {ds ds' : List Did} → AlikeDids c ds ds' → wall ds' ≡ wall ds
  wall_alike (Began s s' boot x old old') =
      ap (λ k. wall_after (Acts Boot) k (wall old')) boot.second ∙ sym (ap (λ k. wall_after (Acts Boot) k (wall old)) boot.first)
  wall_alike (Later n s s' x (Acts Boot) ok a) = absurd (true≢false (sym ok))
  wall_alike (Later n s s' x _ ok a) = wall_alike a

  pub boot_tick_alike : {ds ds' : List Did} → AlikeDids c ds ds' → boot_tick ds' ≡ boot_tick ds + c
  boot_tick_alike (Began s s' boot x old old') = refl
  boot_tick_alike (Later n s s' x (Acts Boot) ok a) = refl
  boot_tick_alike (Later n s s' x _ ok a) = boot_tick_alike a

  pub corrects_alike : {ds ds' : List Did} → AlikeDids c ds ds' → corrects ds' ≡ corrects ds
  corrects_alike (Began s s' boot x old old') = refl
  corrects_alike (Later n s s' x (Acts Boot) ok a) = refl
  corrects_alike (Later n s s' x (Acts (Correct amount stepped value)) ok a) = ap (λ k. k + 1) (corrects_alike a)
  corrects_alike (Later n s s' x _ ok a) = corrects_alike a

  pub ticket_alike : {ds ds' : List Did} → AlikeDids c ds ds' → ticket ds' ≡ ticket ds
  ticket_alike a = ap₂ (λ w k. (w + k) % 32768) (word_alike a) (corrects_alike a)

  pub moved_alike : {ds ds' : List Did} → AlikeDids c ds ds' → moved ds' ≡ moved ds
  moved_alike (Began s s' boot x old old') = refl
  moved_alike (Later n s s' x (Acts Boot) ok a) = refl
  moved_alike (Later n s s' x (Acts (Correct amount stepped value)) ok a) = ap (λ z. z +ℤ amount) (moved_alike a)
  moved_alike (Later n s s' x _ ok a) = moved_alike a

  -- the wall clock isn't moved: what the boot's tick takes off, the later tick adds
  pub target_alike : {ds ds' : List Did} → AlikeDids c ds ds' → (x : ℕ) → target ds' (x + c) ≡ target ds x
  target_alike a x = rw (wall_alike a, boot_tick_alike a, moved_alike a) (omega (arith, ints))

  pub last_correct_alike : {ds ds' : List Did} → AlikeDids c ds ds' → last_correct ds' ≡ last_correct ds + c
  last_correct_alike (Began s s' boot x old old') = refl
  last_correct_alike (Later n s s' x (Acts Boot) ok a) = refl
  last_correct_alike (Later n s s' x (Acts (Correct amount stepped value)) ok a) = refl
  last_correct_alike (Later n s s' x _ ok a) = last_correct_alike a

  rest_left : {ds ds' : List Did} → AlikeDids c ds ds' → rest ds' ≡ rest ds → (x : ℕ) → rest_at ds' (x + c) ≡ rest_at ds x
  rest_left {ds = z} a e x =
      ap₂ (λ r k. eased r (k / SLEW)) e (ap (λ l. (x + c) - l) (last_correct_alike a) ∙ same_time x (last_correct z) c)

  pub rest_alike : {ds ds' : List Did} → AlikeDids c ds ds' → rest ds' ≡ rest ds
  rest_alike (Began s s' boot x old old') = refl
  rest_alike (Later n s s' x (Acts Boot) ok a) = refl
  rest_alike (Later n s s' x (Acts (Correct amount stepped value)) ok a) =
      ap (λ l. if stepped then pos 0 else l +ℤ amount) (rest_left a (rest_alike a) x)
  rest_alike (Later n s s' x _ ok a) = rest_alike a

  pub shown_alike : {ds ds' : List Did} → AlikeDids c ds ds' → (x : ℕ) → shown ds' (x + c) ≡ shown ds x
  shown_alike a x = ap₂ ◌-ℤ◌ (target_alike a x) (rest_left a (rest_alike a) x)

  -- the tick of the last correction
  pub correct_tick_alike : (n : Renaming) → n.shift ≡ c → {ds ds' : List Did} → AlikeDids c ds ds' →
      correct_tick ds' ≡ later n (correct_tick ds)
  correct_tick_alike n e (Began s s' boot x old old') = refl
  correct_tick_alike n e (Later k s s' x (Acts Boot) ok a) = refl
  correct_tick_alike n e (Later k s s' x (Acts (Correct amount stepped value)) ok a) = ap (λ z. Some (x + z)) (sym e)
  correct_tick_alike n e (Later k s s' x _ ok a) = correct_tick_alike n e a

-- a sample without its place, which is all that an estimate doesn't read
abbrev placeless : Option Sampled → Option Sampled
placeless None = None
placeless (Some s) = Some (record s { place = [] })

better_placeless : (was : Option Sampled) (late : Sampled) →
    placeless (Some (better was late)) ≡ Some (better (placeless was) (record late { place = [] }))
better_placeless None late = refl
better_placeless (Some early) late = by_case (int_lt late.trip early.trip) where
  by_case : (b : Bool) →
      placeless (Some (if b then late else early)) ≡ Some (if b then record late { place = [] } else record early { place = [] })
  by_case true = refl
  by_case false = refl

-- what the best sample says after one more, if that is of the same peer
after_placeless : (same : Bool) (was : Option Sampled) (late : Sampled) → placeless (if same then Some (better was late) else was) ≡
    (if same then Some (better (placeless was) (record late { place = [] })) else placeless was)
after_placeless true was late = better_placeless was late
after_placeless false was late = refl

estimate_placeless : (o : Option Sampled) → estimate_of o ≡ estimate_of (placeless o)
estimate_placeless None = refl
estimate_placeless (Some s) = refl

-- what a sample says
abbrev sampled : (counter : ℕ) (diff err : ℤ) (ticket : ℕ) → ℤ → List Seen → Sampled
sampled counter diff err ticket trip place =
    record { counter = counter; diff = diff; err = err; ticket = ticket; trip = trip; place = place }

-- what a deed does to a fact, with other names
module _ (n : Renaming) where
  word_deed : (d : Deed) → word_asked_by (renamed_deed n d) ≡ word_asked_by d
  word_deed (Acts (Post to (Stamp (Request word counter)))) = refl
  word_deed _ = refl

  pub some_later : (at : Option ℕ) → is_some (later n at) ≡ is_some at
  some_later None = refl
  some_later (Some x) = refl

-- the same for one peer, where peers are told apart
module _ (m : Naming) where
  is_measured_deed : (p : PeerId) (d : Deed) (starts was : Bool) → is_measured_after (m.names.peer p) (renamed_deed m.names d) starts was ≡
      is_measured_after p d starts was
  is_measured_deed p (Acts (Arm CloseAlarm at)) starts was = refl
  is_measured_deed p (Acts (Post (Peer q) (Stamp (Request word counter)))) starts was = ap (λ b. if b && starts then true else was) (m.same q p)
  is_measured_deed p (Acts (Leave q)) starts was = ap (λ b. if b then false else was) (m.same q p)
  is_measured_deed p _ starts was = refl

  exchange_deed : (p : PeerId) (c : ℕ) (d : Deed) → {z z' was was' : List Seen} → AlikePlaces m z z' → AlikePlaces m was was' →
      AlikePlaces m (exchange_after p c d z was) (exchange_after (m.names.peer p) c (renamed_deed m.names d) z' was')
  exchange_deed p c (Acts Boot) now k = Nowhere
  exchange_deed p c (Acts (Become r)) now k = Nowhere
  exchange_deed p c (Acts (Arm CloseAlarm at)) now k = Nowhere
  exchange_deed p c (Acts (Ring CloseAlarm)) now k = Nowhere
  exchange_deed p c (Acts (Late CloseAlarm)) now k = Nowhere
  exchange_deed p c (Acts Abandon) now k = Nowhere
  exchange_deed p c (Acts (Post (Peer q) (Stamp (Request word counter)))) now k =
      either_place m ((q.0 == p.0) && (counter == c)) (((m.names.peer q).0 == (m.names.peer p).0) && (counter == c))
      (ap (λ b. b && (counter == c)) (m.same q p)) now k
  exchange_deed p c (Acts (Sample q counter diff err ticket)) now k = either_place m ((q.0 == p.0) && (counter == c))
      (((m.names.peer q).0 == (m.names.peer p).0) && (counter == c)) (ap (λ b. b && (counter == c)) (m.same q p)) Nowhere k
  exchange_deed p c _ now k = k

module _ {m : Naming} where
  pub is_going_alike : {seen seen' : List Seen} → Alike m seen seen' → is_going seen' ≡ is_going seen
  is_going_alike {seen = z} a = ap (λ d. is_some d.close) (armed_alike a) ∙ some_later m.names (armed z).close

  pub is_measured_alike : (p : PeerId) → {seen seen' : List Seen} → Alike m seen seen' → is_measured (m.names.peer p) seen' ≡ is_measured p seen
  is_measured_alike p (Booted s s' boot x old old') = refl
  is_measured_alike p (Own s s' x d ok knows {before = b} a) =
      ap₂ (is_measured_after (m.names.peer p) (renamed_deed m.names d)) (ap (λ (f : Facts). f.is_starting) (facts_alike a)) (is_measured_alike p a)
      ∙ is_measured_deed m p d (is_starting b) (is_measured p b)
  is_measured_alike p (Other n shift s s' x d ok a) = is_measured_alike p a

  -- open exchanges
  pub exchange_alike : (p : PeerId) (c : ℕ) → {seen seen' : List Seen} → Alike m seen seen' →
      AlikePlaces m (exchange p c seen) (exchange (m.names.peer p) c seen')
  exchange_alike p c (Booted s s' boot x old old') = Nowhere
  exchange_alike p c (Own s s' x d ok knows a) = exchange_deed m p c d (There s s' x d a) (exchange_alike p c a)
  exchange_alike p c (Other n shift s s' x d ok a) = exchange_alike p c a

  target_there_alike : {place place' : List Seen} → AlikePlaces m place place' → target_there place' ≡ target_there place
  target_there_alike Nowhere = refl
  target_there_alike (There s s' x d a) = target_alike (plain_alike a) x

  request_at_alike : {place place' : List Seen} → AlikePlaces m place place' → request_at_place place' ≡ request_at_place place
  request_at_alike Nowhere = refl
  request_at_alike (There s s' x d {before = b} {before' = b'} a) =
      ap (λ w. Some (record { word = w; target = target_there (here s' (x + m.names.shift) (renamed_deed m.names d) ∷ b') })) (word_deed m.names d)
      ∙ ap (λ t. Some (record { word = word_asked_by d; target = t })) (target_alike (plain_alike a) x)

  pub request_open_alike : (p : PeerId) (c : ℕ) → {seen seen' : List Seen} → Alike m seen seen' → request_open (m.names.peer p) c seen' ≡ request_open p c seen
  request_open_alike p c a = request_at_alike (exchange_alike p c a)

  -- the round trip of a sample
  trip_alike : {seen seen' : List Seen} → Alike m seen seen' → (p : PeerId) (c x : ℕ) →
      target (plain seen') (x + m.names.shift) -ℤ target_there (exchange (m.names.peer p) c seen') ≡ target (plain seen) x -ℤ target_there (exchange p c seen)
  trip_alike a p c x = ap₂ ◌-ℤ◌ (target_alike (plain_alike a) x) (target_there_alike (exchange_alike p c a))

  best_deed : (p : PeerId) (d : Deed) (s s' : Step) (x : ℕ) → {seen seen' : List Seen} → Alike m seen seen' → (was was' : Option Sampled) →
      placeless was' ≡ placeless was →
      placeless (best_after (m.names.peer p) (renamed_deed m.names d) (here s' (x + m.names.shift) (renamed_deed m.names d) ∷ seen') seen' was') ≡
      placeless (best_after p d (here s x d ∷ seen) seen was)
  best_deed p (Acts Boot) s s' x a was was' e = refl
  best_deed p (Acts (Become r)) s s' x a was was' e = refl
  best_deed p (Acts (Arm CloseAlarm at)) s s' x a was was' e = refl
  best_deed p (Acts (Arm alarm at)) s s' x a was was' e = e
  best_deed p (Acts (Sample q counter diff err ticket)) s s' x {seen = z} {seen' = z'} a was was' e =
      let of : ℤ → List Seen → Sampled = sampled counter diff err ticket in
      let trip = target (plain z) x -ℤ target_there (exchange p counter z) in
      let trip' = target (plain z') (x + m.names.shift) -ℤ target_there (exchange (m.names.peer p) counter z') in
      after_placeless ((m.names.peer q).0 == (m.names.peer p).0) was' (of trip' (here s' (x + m.names.shift)
      (Acts (Sample (m.names.peer q) counter diff err ticket)) ∷ z'))
      ∙ ap (λ same. if same then Some (better (placeless was') (of trip' [])) else placeless was') (m.same q p)
      ∙ ap₂ (λ w t. if q.0 == p.0 then Some (better w (of t [])) else w) e (trip_alike a p counter x)
      ∙ sym (after_placeless (q.0 == p.0) was (of trip (here s x (Acts (Sample q counter diff err ticket)) ∷ z)))
  best_deed p _ s s' x a was was' e = e

  best_alike : (p : PeerId) → {seen seen' : List Seen} → Alike m seen seen' →
      placeless (best (m.names.peer p) seen') ≡ placeless (best p seen)
  best_alike p (Booted s s' boot x old old') = refl
  best_alike p (Own s s' x d ok knows {before = b} {before' = b'} a) = best_deed p d s s' x a (best p b) (best (m.names.peer p) b') (best_alike p a)
  best_alike p (Other n shift s s' x d ok a) = best_alike p a

  pub estimate_alike : (p : PeerId) → {seen seen' : List Seen} → Alike m seen seen' → estimate (m.names.peer p) seen' ≡ estimate p seen
  estimate_alike p {seen = z} {seen' = z'} a =
      estimate_placeless (best (m.names.peer p) z') ∙ ap estimate_of (best_alike p a) ∙ sym (estimate_placeless (best p z))
