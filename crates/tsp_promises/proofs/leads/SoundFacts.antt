-- What the facts of a sound past hand on is sound.
use Rattle.std.proofs.Common.{subst, arith, rules, ◌≡◌, ◌<◌, ℕ, ◌==◌, Bool, true, false, cond, int_lt, List, [], ◌∷◌, Option, None, Some, sym, ◌^◌, ◌+◌, ℤ}
use Rattle.std.proofs.Common.{refl}
use Rattle.std.proofs.{lemmas.Int.ints, Math.Nat.mod-lt, lemmas.Bool.and_parts}
use Rattle.tsp_rules.specs.Values.{Boot, Took, Post, Become, Arm, Sample, Acked, Gave, CloseAlarm, Message, Stamp, Taken, Good, Bad, Body, Nothing, TimeBody}
use Rattle.tsp_rules.specs.Values.{PeerId, Peer, Follow, Act, Alarm, Kind, SetTime, Place}
use Rattle.tsp_rules.specs.ClockRows.{adjusts, sets}
use Rattle.tsp_rules.specs.{CommonRows.posts_reply, CommonRows.replies, SendRows.may_correct, SendRows.may_set, SendRows.begins_settime}
use Rattle.tsp_rules.specs.{RoundRows.asks, Guards.ticket_at, Guards.target_at, Guards.is_clock_value, Guards.is_in_range}
use Rattle.tsp_base.specs.Words.{Deed, Begins, Acts, Did, Seen, Here, Elsewhere, IsName, Received, acting, taken, taken_after, message_in, name_of, name_in}
use Rattle.tsp_base.specs.Words.{kept_name, kept_name_after, Sampled, Estimate, best, best_after, better, estimate, estimate_of, Sending, open_send, open_to}
use Rattle.tsp_base.specs.Words.{open_to_after, posts_of, sending_at, sending_of, message_of, time_in, IsMicros, Cause, Past, plain, carries_time, carries_hops}
use Rattle.tsp_base.specs.Words.{Leads, body_fits, word, word_after, corrects, Row, grown, nothing, puts, either_by, reading, arms, bare, timed, posts}
use Rattle.tsp_base.specs.Words.{posts_to_others, posts_back, posts_time, IsReply, asked}
use Rattle.tsp_base.proofs.LeadsLemmas.{Leads_either, Leads_reading, Leads_nothing, Leads_puts, Leads_from}
use Rattle.tsp_promises.specs.Sound.{IsSound, IsSoundBody, IsSoundTaken, IsSoundDeed, AreSound, IsSoundAct, SoundPast}
use Rattle.tsp_promises.proofs.leads.Leaves.{none-some, some_same}
use Rattle.tsp_promises.proofs.leads.PostLeaves.{Leads_arms, Leads_posts, Leads_posts_back, Leads_posts_time, Leads_others}

-- what a step took is sound
abbrev pub IsSoundReceived : Option Received → Type 0
IsSoundReceived None = Unit {0}
IsSoundReceived (Some r) = IsSoundTaken r.taken

taken_deed : (deed : Deed) (was : Option Received) → IsSoundDeed deed → IsSoundReceived was → IsSoundReceived (taken_after deed was)
taken_deed Begins was s k = tt
taken_deed (Acts (Took from t)) was s k = s
taken_deed _ was s k = k

pub taken_sound : (seen : List Seen) → AreSound seen → IsSoundReceived (taken seen)
taken_sound [] s = tt
taken_sound (Here d ∷ before) s = taken_deed d.deed (taken before) s.0 (taken_sound before s.1)
taken_sound (Elsewhere d ∷ before) s = taken_sound before s

pub no_name : IsName []
no_name = record { short = omega arith; no_nul = λ h. search rules }

message_name : (o : Option Received) → IsSoundReceived o → IsName (name_in o)
message_name None s = no_name
message_name (Some r) s = by_taken r.taken s where
  by_taken : (t : Taken) → IsSoundTaken t → IsName (name_of (message_in t))
  by_taken (Good (Message m)) s = s.2
  by_taken (Good (Stamp z)) s = no_name
  by_taken (Bad fault) s = no_name

kept_deed : (deed : Deed) (took : Option Received) (was : List ℕ) → IsSoundReceived took → IsName was → IsName (kept_name_after deed took was)
kept_deed (Acts Boot) took was s k = no_name
kept_deed (Acts (Become (Follow p))) took was s k = message_name took s
kept_deed _ took was s k = k

-- the name of the master is one
pub kept_sound : (seen : List Seen) → AreSound seen → IsName (kept_name seen)
kept_sound [] s = no_name
kept_sound (Here d ∷ before) s = kept_deed d.deed (taken before) (kept_name before) (taken_sound before s.1) (kept_sound before s.1)
kept_sound (Elsewhere d ∷ before) s = kept_sound before s

-- a place has a sound deed here, or is none
abbrev pub IsSoundHead : List Seen → Type 0
IsSoundHead [] = Unit {0}
IsSoundHead (Here d ∷ before) = IsSoundDeed d.deed
IsSoundHead (Elsewhere d ∷ before) = ⊥

-- of one of two, by a test, holds what holds of both
pub of_both : {A : Type 0} (P : A → Type 0) (b : Bool) (x y : A) → P x → P y → P (cond b x y)
of_both P true x y h k = h
of_both P false x y h k = k

open_deed : (p : PeerId) (d : Did) (before : List Seen) (deed : Deed) (begins : Bool) (was : List Seen) → IsSoundDeed d.deed → IsSoundHead was →
    IsSoundHead (open_to_after p deed begins (Here d ∷ before) was)
open_deed p d before (Acts Boot) begins was s k = tt
open_deed p d before (Acts (Become r)) begins was s k = tt
open_deed p d before (Acts (Post (Peer q) (Message m))) begins was s k = of_both IsSoundHead _ (Here d ∷ before) was s k
open_deed p d before (Acts (Acked q)) begins was s k = of_both IsSoundHead _ [] was tt k
open_deed p d before (Acts (Gave q)) begins was s k = of_both IsSoundHead _ [] was tt k
open_deed p d before _ begins was s k = k

open_head : (p : PeerId) (seen : List Seen) → AreSound seen → IsSoundHead (open_to p seen)
open_head p [] s = tt
open_head p (Here d ∷ before) s = open_deed p d before d.deed (acting before) (open_to p before) s.0 (open_head p before s.1)
open_head p (Elsewhere d ∷ before) s = open_head p before s

sent_sound : (deed : Deed) (began posts : ℕ) (s : Sending) → IsSoundDeed deed → sending_of (message_of deed) began posts ≡ Some s → IsSound (Message s.message)
sent_sound (Acts (Post to (Message m))) began posts s h e =
    let same : record { began = began; posts = posts; message = m } ≡ s = some_same _ s e in
    subst (λ (z : Sending). IsSound (Message z.message)) same h
sent_sound (Acts (Post to (Stamp z))) began posts s h e = none-some s e
sent_sound _ began posts s h e = none-some s e

sending_sound : (place : List Seen) (posts : ℕ) (s : Sending) → IsSoundHead place → sending_at place posts ≡ Some s → IsSound (Message s.message)
sending_sound [] posts s h e = none-some s e
sending_sound (Here d ∷ before) posts s h e = sent_sound d.deed d.tick posts s h e
sending_sound (Elsewhere d ∷ before) posts s h e = absurd h

-- the message of an open send is sound
pub open_sound : (p : PeerId) (seen : List Seen) (s : Sending) → AreSound seen → open_send p seen ≡ Some s → IsSound (Message s.message)
open_sound p seen s h e = sending_sound (open_to p seen) (posts_of p seen) s (open_head p seen h) e

-- a sample has a ticket
abbrev pub HasTicket : Option Sampled → Type 0
HasTicket None = Unit {0}
HasTicket (Some s) = s.ticket < 32768

better_sound : (o : Option Sampled) (late : Sampled) → HasTicket o → late.ticket < 32768 → HasTicket (Some (better o late))
better_sound None late k h = h
better_sound (Some early) late k h = of_both (λ (s : Sampled). s.ticket < 32768) (int_lt late.trip early.trip) late early h k

best_deed : (p : PeerId) (deed : Deed) (here before : List Seen) (was : Option Sampled) → IsSoundDeed deed → HasTicket was →
    HasTicket (best_after p deed here before was)
best_deed p (Acts Boot) here before was s k = tt
best_deed p (Acts (Become r)) here before was s k = tt
best_deed p (Acts (Arm CloseAlarm at)) here before was s k = tt
best_deed p (Acts (Sample q counter diff err ticket)) here before was s k = of_both HasTicket (q.0 == p.0) _ was (better_sound was _ k s) k
best_deed p _ here before was s k = k

pub best_sound : (p : PeerId) (seen : List Seen) → AreSound seen → HasTicket (best p seen)
best_sound p [] s = tt
best_sound p (Here d ∷ before) s = best_deed p d.deed (Here d ∷ before) before (best p before) s.0 (best_sound p before s.1)
best_sound p (Elsewhere d ∷ before) s = best_sound p before s

-- so has an estimate
abbrev pub IsSoundEstimate : Option Estimate → Type 0
IsSoundEstimate None = Unit {0}
IsSoundEstimate (Some e) = e.ticket < 32768

estimate_of_holds : (o : Option Sampled) → HasTicket o → IsSoundEstimate (estimate_of o)
estimate_of_holds None h = tt
estimate_of_holds (Some s) h = h

pub estimate_sound : (p : PeerId) (seen : List Seen) → AreSound seen → IsSoundEstimate (estimate p seen)
estimate_sound p seen s = estimate_of_holds (best p seen) (best_sound p seen s)

-- the time that a message carries is one
pub time_sound : (b : Body) → IsSoundBody b → IsMicros (time_in b)
time_sound (TimeBody t) h = h
time_sound _ h = record { low = omega (arith, ints); high = omega (arith, ints) }

-- what keeps a port sound: the words that rows are put together with, and single acts

-- a port that is sound
abbrev pub SoundAt : ℕ → Past → Type 0
SoundAt x past = SoundPast past

-- a row keeps a port sound
abbrev pub Soundly : Row → Type 0
Soundly row = Leads SoundAt row SoundAt

pub sound_either : (test : ℕ → Past → Bool) (r s : Row) → Soundly r → Soundly s → Soundly (either_by test r s)
sound_either test r s p q = Leads_either test r s (Leads_from (λ x past h. h.0) p) (Leads_from (λ x past h. h.0) q)

pub sound_reading : {A : Type 0} (fact : ℕ → Past → A) (rows : A → Row) → ((a : A) → Soundly (rows a)) → Soundly (reading fact rows)
sound_reading fact rows k = Leads_reading fact rows (λ a. Leads_from (λ x past h. h.0) (k a))

-- an act that isn't a boot
pub sound_act : (x : ℕ) (past : Past) (a : Act) → ((c : Cause) (n : ℕ) → word_after (Acts a) c n ≡ n) → IsSoundAct a → SoundPast past →
    SoundPast (grown x past (a ∷ []))
sound_act x past a stays s h = record {
  name = h.name;
  word_fits = subst (λ n. n < 2 ^ 64) (sym (stays past.step.cause (word (plain past.seen)))) h.word_fits;
  acts = (s, h.acts);
}

pub sound_puts : (a : Act) → ((c : Cause) (n : ℕ) → word_after (Acts a) c n ≡ n) → IsSoundAct a → Soundly (puts a)
sound_puts a stays s = Leads_puts a (λ x past h. sound_act x past a stays s h)

pub sound_arms : (alarm : Alarm) (long : ℕ) → Soundly (arms alarm long)
sound_arms alarm long = Leads_arms alarm long (λ x past h. sound_act x past _ (λ c n. refl) tt h)

-- a message without a body
pub bare_sound : (kind : Kind) (number : ℕ) (name : List ℕ) → body_fits kind Nothing ≡ true → number < 2 ^ 16 → IsName name →
    IsSound (Message (bare kind number name))
bare_sound kind number name carries few is = (few, carries, is, tt)

pub sound_posts : (p : PeerId) (kind : Kind) (number : ℕ) → body_fits kind Nothing ≡ true → number < 2 ^ 16 → Soundly (posts p kind number)
sound_posts p kind number carries few = Leads_posts p kind number (λ x past h. sound_act x past _ (λ c n. refl)
    (bare_sound kind number past.name carries few h.name) h)

pub sound_posts_back : (from : Place) (kind : Kind) (number : ℕ) → body_fits kind Nothing ≡ true → number < 2 ^ 16 → Soundly (posts_back from kind number)
sound_posts_back from kind number carries few = Leads_posts_back from kind number
    (λ x past h. sound_act x past _ (λ c n. refl) (bare_sound kind number past.name carries few h.name) h)

pub sound_posts_to_others : (kind : Kind) (number : ℕ) → body_fits kind Nothing ≡ true → number < 2 ^ 16 → Soundly (posts_to_others kind number)
sound_posts_to_others kind number carries few = Leads_others kind number (λ x past p h. sound_act x past _ (λ c n. refl)
    (bare_sound kind number past.name carries few h.name) h)

-- a message with a time
pub timed_sound : (kind : Kind) (number : ℕ) (time : ℤ) (name : List ℕ) → body_fits kind (TimeBody time) ≡ true → number < 2 ^ 16 → IsMicros time →
    IsName name → IsSound (Message (timed kind number time name))
timed_sound kind number time name carries few is named = (few, carries, named, is)

pub sound_posts_time : (p : PeerId) (kind : Kind) (number : ℕ) (time : ℤ) → body_fits kind (TimeBody time) ≡ true → number < 2 ^ 16 → IsMicros time →
    Soundly (posts_time p kind number time)
sound_posts_time p kind number time carries few is = Leads_posts_time p kind number time
    (λ x past h. sound_act x past _ (λ c n. refl) (timed_sound kind number time past.name carries few is h.name) h)

-- the ticket is one
pub ticket_small : (x : ℕ) (past : Past) → ticket_at x past < 32768
ticket_small x past = mod-lt (word (plain past.seen) + corrects (plain past.seen)) {m = 32768} (omega arith)

-- a clock's value is a time
pub clock_time : (z : ℤ) → is_clock_value z ≡ true → IsMicros z
clock_time z e = record { low = grind (arith, ints); high = grind (arith, ints) }

clock_reading : (ticket : ℕ) (z : ℤ) → ticket < 32768 → is_clock_value z ≡ true → IsReply ticket z
clock_reading ticket z small e = record { small = small; low = grind (arith, ints); high = grind (arith, ints) }

-- acts whose values are read from the past
pub sound_asks : (p : PeerId) → Soundly (asks p)
unfolding asks
sound_asks p = record { run = λ x past h. sound_act x past _ (λ c n. refl) (h.word_fits, mod-lt (asked past.seen) {m = 2 ^ 64} (omega arith)) h }

pub sound_adjusts : (amount : ℤ) → Soundly (adjusts amount)
unfolding adjusts
sound_adjusts amount = record { run = λ x past h. sound_act x past _ (λ c n. refl) tt h }

pub sound_sets : (value : ℤ) → Soundly (sets value)
unfolding sets
sound_sets value = record { run = λ x past h. sound_act x past _ (λ c n. refl) tt h }

pub sound_replies : (from : Place) (word counter : ℕ) → word < 2 ^ 64 → counter < 2 ^ 64 → Soundly (replies from word counter)
unfolding replies posts_reply
sound_replies from word counter w c = Leads_either is_in_range (posts_reply from word counter) nothing
    (record { run = λ x past h. sound_act x past _ (λ c n. refl) (w, c, clock_reading (ticket_at x past) (target_at x past) (ticket_small x past) h.1) h.0 })
    (Leads_from (λ x past h. h.0) Leads_nothing)

pub sound_begins_settime : (p : PeerId) (number : ℕ) → number < 2 ^ 16 → Soundly (begins_settime p number)
unfolding begins_settime body_fits carries_time carries_hops
sound_begins_settime p number few = Leads_either (may_set p number) (reading target_at (posts_time p SetTime number)) nothing
    (Leads_reading target_at (posts_time p SetTime number) (λ t. Leads_posts_time p SetTime number t (λ x past h.
    let may = and_parts (may_correct p number x past) (is_in_range x past) h.0.1 in
    sound_act x past _ (λ c n. refl) (timed_sound SetTime number t past.name refl few (subst IsMicros h.1 (clock_time (target_at x past) may.1)) h.0.0.name)
    h.0.0)))
    (Leads_from (λ x past h. h.0) Leads_nothing)
