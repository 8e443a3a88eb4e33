-- What follows for each row from how it is made: it keeps a port sound.
use Rattle.std.proofs.Common.{sym, arith, true≢false, ◌≡◌, ◌<◌, ◌^◌, ℕ, ◌+◌, ℤ, ◌-ℤ◌, Bool, true, false, List, [], ◌∷◌, map, Option, None, Some, refl, subst}
use Rattle.std.proofs.Common.{ap, zero, suc, pos, negsuc, ◌*ℤ◌, ◌≤ℤ◌, if◌then◌else◌}
use Rattle.std.proofs.{Math.Nat.mod-lt, lemmas.List.Elements.All-nil, lemmas.List.Elements.All-cons, lemmas.List.Elements.All-filter}
use Rattle.std.{specs.List.All, specs.List.fold, proofs.lemmas.Int.ints}
use Rattle.tsp_rules.specs.Values.{Act, Boot, Took, Post, Abandon, Sample, Ring, CloseAlarm, Message, Stamp, Taken, Good, Bad, Kind, Ack, AdjTime, Date}
use Rattle.tsp_rules.specs.Values.{DateReq, LoopKind, SetDate, SetDateReq, SetTime, Nothing, TimeBody, PeerId, Port, Role, Follow, Master, Request, Reply, SPAN}
use Rattle.tsp_rules.{specs.ClockRows.can_adjust, proofs.BuiltAnswers.Owes, specs.SendRows.open_at, specs.SendRows.repeats}
use Rattle.tsp_rules.specs.{CommonRows.master_name_in, GateRows.loop_to, GateRows.repost, GateRows.reposts, GateRows.sends_loops}
use Rattle.tsp_rules.{specs.Guards.role_at, proofs.Emits.Sort}
use Rattle.tsp_rules.specs.RoundRows.{Standing, abandons, close_act, closes, closes_with, corrects_by, corrects_peer, estimates, is_near, mean_by, measured_at}
use Rattle.tsp_rules.specs.RoundRows.{moves, round_at, standing, diff_before, near_diffs}
use Rattle.tsp_rules.proofs.Unchanged.{no_unchanged, told_unchanged, unchanged, yes_unchanged}
use Rattle.tsp_rules.proofs.RowCodes.{Value, ANumber, ATicket, ATime, AStamp, AName, ASend, AMessage, APlace, ATaken, Owed, Leaf, Puts, Takes, Arms, Posts}
use Rattle.tsp_rules.proofs.RowCodes.{ToOthers, PostsBack, PostsTime, PostsReply, PostsName, Repeats, SettimeBegins, Loops, Reposts, Asks, Samples, Adjusts}
use Rattle.tsp_rules.proofs.RowCodes.{Sets, Valued, TicketAt, NextNumber, MasterName, is_bare, is_plain, is_timed}
use Rattle.tsp_rules.proofs.Built.{Built, Corrects, Empty, At, Then, Either, If, Reading, ReadingValue, Each, EachSend, Closes, More, Wider}
use Rattle.tsp_base.specs.Words.{Acts, Cause, MessageValue, Past, grown, others, Seen, plain, body_fits, carries_hops, carries_time, Estimate, IsMicros, IsName}
use Rattle.tsp_base.specs.Words.{Row, Sending, begun, for_each, nothing, puts, reading, word, word_after}
use Rattle.tsp_base.proofs.LeadsLemmas.{Leads_then, Leads_nothing, Leads_each}
use Rattle.tsp_group.specs.Groups.{group_of, is_member, members, group_from, goes_before, better, no_group, try_lo, floor_div, mean_of}
use Rattle.tsp_group.{specs.Values.IsNear, proofs.Means.floor_div_fits}
use Rattle.tsp_group.{specs.declared.group.Group.Group, proofs.Majority.near_sum, proofs.Sums.near_total_low, proofs.Sums.near_total_high}
use Rattle.tsp_promises.specs.Sound.{AreSound, IsSound, IsSoundAct, IsSoundTaken, SoundPast}
use Rattle.tsp_promises.proofs.leads.SoundFacts.{IsSoundEstimate, of_both, estimate_sound, kept_sound, no_name, open_sound, time_sound, Soundly, bare_sound}
use Rattle.tsp_promises.proofs.leads.SoundFacts.{sound_act, sound_adjusts, sound_arms, sound_asks, sound_begins_settime, sound_either, sound_posts}
use Rattle.tsp_promises.proofs.leads.SoundFacts.{sound_posts_back}
use Rattle.tsp_promises.proofs.leads.SoundFacts.{sound_posts_time, sound_posts_to_others, sound_puts, sound_reading, sound_replies, sound_sets, ticket_small}

-- the mean of a round's differences is near, as they are

-- a difference that is averaged is near
pub near_is : (z : ℤ) → is_near z ≡ true → IsNear z
near_is z e = record { low = grind (arith, ints); high = grind (arith, ints) }

diff_near : (o : Option Estimate) (rest : List ℤ) → All IsNear rest → All IsNear (diff_before o rest)
diff_near None rest h = h
diff_near (Some b) rest h = (elim (is_near b.diff) as (λ n. is_near b.diff ≡ n → All IsNear (if n then b.diff ∷ rest else rest))
    [ true ↦ λ e. All-cons IsNear b.diff rest (near_is b.diff e) h | false ↦ λ e. h ]) refl

diffs_near : (round : List Standing) → All IsNear (near_diffs round)
diffs_near [] = All-nil IsNear
diffs_near (s ∷ rest) = diff_near s.best (near_diffs rest) (diffs_near rest)

estimates_near : (round : List Standing) → All IsNear (estimates round)
estimates_near round = All-cons IsNear (pos 0) (near_diffs round) (record { low = omega (arith, ints); high = omega (arith, ints) }) (diffs_near round)

-- a group's sum is that of as many near values
record IsNearGroup (g : Group) : Type 0 where
  pub low : (negsuc 1073741823999998 *ℤ pos g.count) ≤ℤ g.sum
  pub high : g.sum ≤ℤ (pos 1073741823999999 *ℤ pos g.count)

from_near : (span : ℕ) (values : List ℤ) (lo : ℤ) → All IsNear values → IsNearGroup (group_from span values lo)
unfolding group_from
from_near span values lo h =
    let some = All-filter (is_member span lo) IsNear values h in
    record { low = near_total_low (members span values lo) some; high = near_total_high (members span values lo) some }

better_near : (g h : Group) → IsNearGroup g → IsNearGroup h → IsNearGroup (better g h)
unfolding better
better_near g h n k = of_both IsNearGroup (goes_before h g) h g k n

fold_near : (span : ℕ) (values rest : List ℤ) (g : Group) → All IsNear values → IsNearGroup g → IsNearGroup (fold (try_lo span values) g rest)
fold_near span values [] g h n = n
fold_near span values (lo ∷ rest) g h n = fold_near span values rest (better g (group_from span values lo)) h
    (better_near g (group_from span values lo) n (from_near span values lo h))

zero_sum : (s : ℤ) (n : ℕ) → n ≡ 0 → (negsuc 1073741823999998 *ℤ pos n) ≤ℤ s → s ≤ℤ (pos 1073741823999999 *ℤ pos n) → s ≡ pos 0
zero_sum s n e low high =
    let a : (negsuc 1073741823999998 *ℤ pos 0) ≤ℤ s = subst (λ k. (negsuc 1073741823999998 *ℤ pos k) ≤ℤ s) e low in
    let b : s ≤ℤ (pos 1073741823999999 *ℤ pos 0) = subst (λ k. s ≤ℤ (pos 1073741823999999 *ℤ pos k)) e high in
    omega (arith, ints, a, b)

-- a mean is near
mean_cases : (g : Group) (n : ℕ) → g.count ≡ n → IsNearGroup g → (negsuc 1073741823999999 ≤ℤ mean_of g) × (mean_of g ≤ℤ pos 1073741823999999)
mean_cases g zero e n =
    let count : pos g.count ≡ pos 0 = ap pos e in
    let none : g.sum ≡ pos 0 = zero_sum g.sum g.count e n.low n.high in
    subst (λ z. (negsuc 1073741823999999 ≤ℤ floor_div z g.count) × (floor_div z g.count ≤ℤ pos 1073741823999999)) (sym none)
    (subst (λ k. (negsuc 1073741823999999 ≤ℤ floor_div (pos 0) k) × (floor_div (pos 0) k ≤ℤ pos 1073741823999999)) (sym e) (
      omega (arith, ints),
      omega (arith, ints),
    ))
mean_cases g (suc n) e near =
    let low = near.low in
    let high = near.high in
    floor_div_fits g.sum g.count (omega (arith, e)) (near_sum g.sum g.count (omega (arith, e)) low high)

pub mean_near : (span : ℕ) (round : List Standing) → (negsuc 1073741823999999 ≤ℤ mean_of (group_of span (estimates round))) ×
    (mean_of (group_of span (estimates round)) ≤ℤ pos 1073741823999999)
mean_near span round =
    let none : IsNearGroup no_group = record { low = omega (arith, ints); high = omega (arith, ints) } in
    mean_cases (group_of span (estimates round)) _ refl (fold_near span (estimates round) (estimates round) no_group (estimates_near round) none)

-- what brings a near difference to the mean is a time
pub correction_time : (own : Bool) (span : ℕ) (round : List Standing) (diff : ℤ) → is_near diff ≡ true →
    IsMicros (mean_by own (group_of span (estimates round)) -ℤ diff)
correction_time true span round diff e = let m = mean_near span round in let low = m.0 in let high = m.1 in let near = near_is diff e in let a = near.low in
    let b = near.high in record { low = omega (arith, ints, low, high, a, b); high = omega (arith, ints, low, high, a, b) }
correction_time false span round diff e = let near = near_is diff e in let a = near.low in let b = near.high in
    record { low = omega (arith, ints, a, b); high = omega (arith, ints, a, b) }

-- the ranges of the values in acts
abbrev pub InRange : Value → Type 0
InRange (ANumber n) = n < 2 ^ 16
InRange (ATicket n) = n < 32768
InRange (ATime t) = IsMicros t
InRange (AStamp word counter) = (word < 2 ^ 64) × (counter < 2 ^ 64)
InRange (AName name) = IsName name
InRange (ASend None) = Unit {0}
InRange (ASend (Some s)) = IsSound (Message s.message)
InRange (AMessage m) = IsSound (Message m)
InRange (APlace from) = Unit {0}
InRange (ATaken t) = IsSoundTaken t

abbrev pub ranges_owed : Owed
ranges_owed = record { of = InRange; zero = omega arith; near = λ p. tt }

-- what is sound owes nothing more
pub taken_ranges : (t : Taken) → IsSoundTaken t → Owes ranges_owed t
taken_ranges (Bad fault) s = tt
taken_ranges (Good (Message m)) s = (s.0, time_sound m.body s.3)
taken_ranges (Good (Stamp (Request word counter))) s = s
taken_ranges (Good (Stamp (Reply r))) s = s.2.small

bare_fits : (k : Kind) → is_bare k ≡ true → body_fits k Nothing ≡ true
unfolding body_fits carries_time carries_hops
bare_fits AdjTime e = absurd (true≢false (sym e))
bare_fits SetTime e = absurd (true≢false (sym e))
bare_fits Date e = absurd (true≢false (sym e))
bare_fits DateReq e = absurd (true≢false (sym e))
bare_fits SetDate e = absurd (true≢false (sym e))
bare_fits SetDateReq e = absurd (true≢false (sym e))
bare_fits LoopKind e = absurd (true≢false (sym e))
bare_fits _ e = refl

timed_fits : (k : Kind) (t : ℤ) → is_timed k ≡ true → body_fits k (TimeBody t) ≡ true
unfolding body_fits carries_time
timed_fits AdjTime t e = refl
timed_fits SetTime t e = refl
timed_fits Date t e = refl
timed_fits DateReq t e = refl
timed_fits SetDate t e = refl
timed_fits SetDateReq t e = refl
timed_fits _ t e = absurd (true≢false (sym e))

plain_stays : (a : Act) → is_plain a ≡ true → (c : Cause) (n : ℕ) → word_after (Acts a) c n ≡ n
plain_stays Boot e c n = absurd (true≢false (sym e))
plain_stays _ e c n = refl

plain_sound : (a : Act) → is_plain a ≡ true → IsSoundAct a
plain_sound (Took from t) e = absurd (true≢false (sym e))
plain_sound (Post to datagram) e = absurd (true≢false (sym e))
plain_sound (Sample p counter diff err ticket) e = absurd (true≢false (sym e))
plain_sound _ e = tt

loop_sound : (q : Port) (ps : List PeerId) (x : ℕ) (past : Past) → q.0 < 2 ^ 16 → SoundPast past → SoundPast (grown x past (map (loop_to q past.name) ps))
unfolding body_fits carries_time carries_hops
loop_sound q [] x past few s = s
loop_sound q (p ∷ ps) x past few s = loop_sound q ps x (grown x past (loop_to q past.name p ∷ [])) few (sound_act x past (loop_to q past.name p) (λ c n. refl)
    (few, refl, s.name, omega arith) s)

repost_sound : (m : MessageValue) (ps : List PeerId) (x : ℕ) (past : Past) → IsSound (Message m) → SoundPast past → SoundPast (grown x past (map (repost m) ps))
repost_sound m [] x past sound s = s
repost_sound m (p ∷ ps) x past sound s = repost_sound m ps x (grown x past (repost m p ∷ [])) sound (sound_act x past (repost m p) (λ c n. refl) sound s)

leaf_sound : {few : List Sort} {k c : ℕ} {r r' : Row} → Leaf unchanged ranges_owed few k c r r' → Soundly r
unfolding repeats sends_loops reposts
leaf_sound (Puts a plain knows) = sound_puts a (plain_stays a plain) (plain_sound a plain)
leaf_sound (Takes from t is) = sound_puts _ (λ c n. refl) is
leaf_sound (Arms alarm long wakes) = sound_arms alarm long
leaf_sound (Posts p kind number known is fits) = sound_posts p kind number (bare_fits kind fits) is
leaf_sound (ToOthers kind fits) = sound_posts_to_others kind 0 (bare_fits kind fits) (omega arith)
leaf_sound (PostsBack from kind number place back is fits) = sound_posts_back from kind number (bare_fits kind fits) is
leaf_sound (PostsTime p kind number time known is timely fits) = sound_posts_time p kind number time (timed_fits kind time fits) is timely
leaf_sound (PostsReply from word counter place back is) = sound_replies from word counter is.0 is.1
leaf_sound (PostsName from number name place back is named) = sound_puts _ (λ c n. refl) (bare_sound Ack number name (bare_fits Ack refl) is named)
leaf_sound (Repeats p s known is) = sound_puts _ (λ c n. refl) is
leaf_sound (SettimeBegins p number known is) = sound_begins_settime p number is
leaf_sound (Loops q is) = record { run = λ x past s. loop_sound q (others past.own past.peers) x past is s }
leaf_sound (Reposts msg is) = record { run = λ x past s. repost_sound msg (others past.own past.peers) x past is s }
leaf_sound (Asks p known) = sound_asks p
leaf_sound (Samples p r a d known is) = sound_puts _ (λ c n. refl) is
leaf_sound (Adjusts amount) = sound_adjusts amount
leaf_sound (Sets value) = sound_sets value

name_sound : (r : Role) (own kept : List ℕ) → IsName own → IsName kept → IsName (master_name_in r own kept)
name_sound Master own kept a b = a
name_sound (Follow q) own kept a b = b
name_sound _ own kept a b = no_name

send_sound : (p : PeerId) (past : Past) → SoundPast past → (s : Option Sending) → open_at p 0 past ≡ s → InRange (ASend s)
send_sound p past h None e = tt
send_sound p past h (Some s) e = open_sound p past.seen s h.acts e

value_sound : {A : Type 0} {f : A → A} {value : A → Value} {fact fact' : ℕ → Past → A} → Valued unchanged A f value fact fact' → (x : ℕ) (past : Past) →
    SoundPast past → InRange (value (fact x past))
value_sound TicketAt x past h = let small = ticket_small x past in omega (arith, small)
value_sound NextNumber x past h = let small = mod-lt (word (plain past.seen) + begun past.seen) {m = 32768} (omega arith) in omega (arith, small)
value_sound MasterName x past h = name_sound (role_at x past) past.name _ h.name (kept_sound past.seen h.acts)

reading_sound : {A : Type 0} {f : A → A} {value : A → Value} {fact fact' : ℕ → Past → A} (rows : A → Row) → Valued unchanged A f value fact fact' →
    ((a : A) → InRange (value a) → Soundly (rows a)) → Soundly (reading fact rows)
unfolding reading
reading_sound {fact = fact} rows f k = record { run = λ x past h. (k (fact x past) (value_sound f x past h)).run x past h }

-- a row about a peer's open send, which does nothing if there is none
open_row : (p : PeerId) (row : Option Sending → Row) → row None ≡ nothing → ((s : Sending) → InRange (ASend (Some s)) → Soundly (row (Some s))) →
    Soundly (reading (open_at p) row)
unfolding reading
open_row p row none d = record { run = λ x past h. (by_send (open_at p x past) (send_sound p past h (open_at p x past) refl)).run x past h } where
  by_send : (q : Option Sending) → InRange (ASend q) → Soundly (row q)
  by_send None is = rw none Leads_nothing
  by_send (Some s) is = d s is

-- what a round has come to is sound
abbrev AreSoundStandings : List Standing → Type 0
AreSoundStandings [] = Unit {0}
AreSoundStandings (s ∷ rest) = IsSoundEstimate s.best × AreSoundStandings rest

standings_sound : (seen : List Seen) (ps : List PeerId) → AreSound seen → AreSoundStandings (map (standing seen) ps)
standings_sound seen [] h = tt
standings_sound seen (p ∷ ps) h = (estimate_sound p seen h, standings_sound seen ps h)

correct_owed : (mean : ℤ) (best : Option Estimate) → ((diff : ℤ) → is_near diff ≡ true → IsMicros (mean -ℤ diff)) → IsSoundEstimate best →
    Corrects ranges_owed mean best
correct_owed mean None time h = tt
correct_owed mean (Some b) time h = (omega (arith, h), time b.diff)

module _ (own : Bool) (moved : (mean : ℤ) → Soundly (moves own mean)) (corrected : (mean : ℤ) (p : PeerId) (best : Option Estimate) →
    Corrects ranges_owed mean best → Soundly (corrects_by mean p best)) where
  each_sound : (mean : ℤ) (round : List Standing) → ((diff : ℤ) → is_near diff ≡ true → IsMicros (mean -ℤ diff)) → AreSoundStandings round →
      Soundly (for_each (corrects_peer mean) round)
  unfolding for_each corrects_peer
  each_sound mean [] time h = Leads_nothing
  each_sound mean (s ∷ rest) time h = Leads_then (corrects_peer mean s) (for_each (corrects_peer mean) rest)
      (corrected mean s.peer s.best (correct_owed mean s.best time h.0)) (each_sound mean rest time h.1)

  closes_with_sound : (round : List Standing) → AreSoundStandings round → Soundly (closes own round)
  unfolding closes closes_with abandons
  closes_with_sound round h =
      let g = group_of SPAN (estimates round) in
      let mean = mean_by own g in
      Leads_then (puts (Ring CloseAlarm)) _ (sound_puts (Ring CloseAlarm) (λ c n. refl) tt)
      (sound_either (can_adjust mean) _ (puts Abandon)
      (Leads_then (puts (close_act own g)) _ (sound_puts (close_act own g) (λ c n. refl) tt)
      (Leads_then (moves own mean) (for_each (corrects_peer mean) round) (moved mean) (each_sound mean round (λ diff e. correction_time own SPAN round diff e)
      h)))
      (sound_puts Abandon (λ c n. refl) tt))

  closes_sound : Soundly (reading round_at (closes own))
  unfolding reading
  closes_sound = record { run = λ x past h. (closes_with_sound (round_at x past) (standings_sound past.seen (measured_at x past) h.acts)).run x past h }

-- a row keeps a port sound
pub sound_built : {sorts : List Sort} {k c : ℕ} {r r' : Row} → Built unchanged ranges_owed sorts k c r r' → Soundly r
sound_built Empty = Leads_nothing
sound_built (At leaf e) = leaf_sound leaf
sound_built (Then d e) = Leads_then _ _ (sound_built d) (sound_built e)
sound_built (Either t d e) = sound_either _ _ _ (sound_built (d (yes_unchanged t))) (sound_built (e (no_unchanged t)))
sound_built (If true b' same d e) = sound_built (d refl)
sound_built (If false b' same d e) = sound_built e
sound_built (Reading rows f d) = sound_reading _ _ (λ a. sound_built (d a (told_unchanged f a)))
sound_built (ReadingValue rows f d) = reading_sound _ f (λ a is. sound_built (d a is))
sound_built (Each row l d) = sound_reading _ _ (λ ps. Leads_each _ ps (λ p. sound_built (d p tt)))
sound_built (EachSend row row' none none' d) = sound_reading _ _ (λ ps. Leads_each _ ps (λ p. open_row p (row p) (none p) (λ s is. sound_built (d p tt s is))))
sound_built (Closes own e moved corrected) = closes_sound own (λ mean. sound_built (moved mean)) (λ mean p best is. sound_built (corrected mean p tt best is))
sound_built (More d le) = sound_built d
sound_built (Wider e d) = sound_built d
