-- What follows for each row from how it is made: which sorts of acts it puts.
use Rattle.std.specs.Prelude.{◌≡◌, ℕ, ℤ, Bool, true, false, List, [], ◌∷◌, Option, None, Some, refl}
use Rattle.tsp_rules.specs.Values.{Abandon, Ring, CloseAlarm, Message, Stamp, Taken, Good, Bad, PeerId, Request, Reply, SPAN}
use Rattle.tsp_base.specs.Words.{Estimate, Row, Sending, nothing, others, puts, reading}
use Rattle.tsp_group.specs.Groups.{group_of}
use Rattle.tsp_rules.specs.{ClockRows.can_adjust, CommonRows.posts_reply, CommonRows.replies, SendRows.begins_settime, SendRows.repeats}
use Rattle.tsp_rules.specs.GateRows.{loop_to, repost, reposts, sends_loops}
use Rattle.tsp_rules.specs.RoundRows.{abandons, asks, close_act, closes, closes_with, corrects_by, corrects_peer, estimates, mean_by, moves, round_at}
use Rattle.tsp_rules.proofs.Emits.{Sort, Posting, all_map, Closing, Rounding, is_in_own, is_part, sort_of, sort_of_alarm, sort_of_kind, Emits, Emits_nothing}
use Rattle.tsp_rules.proofs.Emits.{Emits_puts, Emits_then, Emits_either, Emits_reading, Emits_each, Emits_arms, Emits_posts, Emits_posts_to_others}
use Rattle.tsp_rules.proofs.Emits.{Emits_posts_back, Emits_posts_time, Emits_adjusts, Emits_sets, Emits_more}
use Rattle.tsp_rules.proofs.Unchanged.{no_unchanged, told_unchanged, unchanged, yes_unchanged}
use Rattle.tsp_rules.proofs.RowCodes.{Owed, Leaf, Puts, Arms, Posts, ToOthers, PostsBack, PostsTime, PostsReply, Repeats, SettimeBegins, Loops, Reposts, Asks}
use Rattle.tsp_rules.proofs.RowCodes.{Adjusts, Sets}
use Rattle.tsp_rules.proofs.BuiltAnswers.{Owes}
use Rattle.tsp_rules.proofs.Built.{Built, Corrects, Empty, At, Then, Either, If, Reading, ReadingValue, Each, EachSend, Closes, More, Wider}

-- nothing is asked of values
abbrev pub nothing_owed : Owed
nothing_owed = record { of = λ v. Unit {0}; zero = tt; near = λ p. tt }

leaf_emits : {few : List Sort} {k c : ℕ} {r r' : Row} → Leaf unchanged nothing_owed few k c r r' → Emits few r
unfolding replies posts_reply repeats asks begins_settime sends_loops reposts
leaf_emits (Puts a plain knows) = Emits_puts a (is_in_own (sort_of a))
leaf_emits (Arms alarm long wakes) = Emits_arms alarm long (is_in_own (sort_of_alarm alarm))
leaf_emits (Posts p kind number known is fits) = Emits_posts p kind number (is_in_own (sort_of_kind kind))
leaf_emits (ToOthers kind fits) = Emits_posts_to_others kind 0 (is_in_own (sort_of_kind kind))
leaf_emits (PostsBack from kind number place back is fits) = Emits_posts_back from kind number (is_in_own (sort_of_kind kind))
leaf_emits (PostsTime p kind number time known is timely fits) = Emits_posts_time p kind number time (is_in_own (sort_of_kind kind))
leaf_emits (PostsReply from word counter place back is) = Emits_either _ _ nothing (record { only = λ x past. (refl, tt) }) Emits_nothing
leaf_emits (Repeats p s known is) = Emits_puts _ (is_in_own (sort_of_kind s.message.kind))
leaf_emits (SettimeBegins p number known is) = Emits_either _ _ nothing (Emits_reading _ _ (λ t. Emits_posts_time p _ number t refl)) Emits_nothing
leaf_emits (Loops q is) = record { only = λ x past. all_map (Posting ∷ []) (loop_to q past.name) (λ p. refl) (others past.own past.peers) }
leaf_emits (Reposts msg is) = record {
  only = λ x past. all_map (sort_of_kind msg.kind ∷ []) (repost msg) (λ p. is_in_own (sort_of_kind msg.kind))
      (others past.own past.peers);
}
leaf_emits (Asks p known) = record { only = λ x past. (refl, tt) }
leaf_emits (Adjusts amount) = Emits_adjusts amount refl
leaf_emits (Sets value) = Emits_sets value refl
leaf_emits _ = Emits_puts _ refl

closes_emits : {sorts : List Sort} (own : Bool) → is_part (Rounding ∷ Closing ∷ []) sorts ≡ true → ((mean : ℤ) → Emits sorts (moves own mean)) →
    ((mean : ℤ) (p : PeerId) (best : Option Estimate) → Emits sorts (corrects_by mean p best)) → Emits sorts (reading round_at (closes own))
unfolding closes closes_with corrects_peer abandons
closes_emits own e moved corrected =
    Emits_reading round_at (closes own) (λ round.
    let g = group_of SPAN (estimates round) in
    let mean = mean_by own g in
    Emits_then (puts (Ring CloseAlarm)) _ (Emits_more (Rounding ∷ Closing ∷ []) e (Emits_puts (Ring CloseAlarm) refl))
    (Emits_either (can_adjust mean) _ (puts Abandon)
    (Emits_then (puts (close_act own g)) _ (Emits_more (Rounding ∷ Closing ∷ []) e (Emits_puts (close_act own g) refl))
    (Emits_then (moves own mean) _ (moved mean) (Emits_each (corrects_peer mean) round (λ s. corrected mean s.peer s.best))))
    (Emits_more (Rounding ∷ Closing ∷ []) e (Emits_puts Abandon refl))))

-- a row about a peer's open send, which does nothing if there is none
open_emits : {sorts : List Sort} (row : Option Sending → Row) → row None ≡ nothing → ((s : Sending) → Emits sorts (row (Some s))) → (q : Option Sending) →
    Emits sorts (row q)
open_emits row none d None = rw none Emits_nothing
open_emits row none d (Some s) = d s

-- so nothing is owed for what is taken
pub nothing_taken : (t : Taken) → Owes nothing_owed t
nothing_taken (Bad fault) = tt
nothing_taken (Good (Message m)) = (tt, tt)
nothing_taken (Good (Stamp (Request word counter))) = tt
nothing_taken (Good (Stamp (Reply r))) = tt

-- nor for what a round has come to
pub nothing_measured : (mean : ℤ) (best : Option Estimate) → Corrects nothing_owed mean best
nothing_measured mean None = tt
nothing_measured mean (Some b) = (tt, λ e. tt)

emits_made : {sorts : List Sort} {k c : ℕ} {r r' : Row} → Built unchanged nothing_owed sorts k c r r' → Emits sorts r
emits_made Empty = Emits_nothing
emits_made (At leaf e) = Emits_more _ e (leaf_emits leaf)
emits_made (Then d e) = Emits_then _ _ (emits_made d) (emits_made e)
emits_made (Either t d e) = Emits_either _ _ _ (emits_made (d (yes_unchanged t))) (emits_made (e (no_unchanged t)))
emits_made (If true b' same d e) = emits_made (d refl)
emits_made (If false b' same d e) = emits_made e
emits_made (Reading rows f d) = Emits_reading _ _ (λ a. emits_made (d a (told_unchanged f a)))
emits_made (ReadingValue rows f d) = Emits_reading _ _ (λ a. emits_made (d a tt))
emits_made (Each row l d) = Emits_reading _ _ (λ ps. Emits_each _ ps (λ p. emits_made (d p tt)))
emits_made (EachSend row row' none none' d) = Emits_reading _ _ (λ ps. Emits_each _ ps
    (λ p. Emits_reading _ _ (open_emits (row p) (none p) (λ s. emits_made (d p tt s tt)))))
emits_made (Closes own e moved corrected) = closes_emits own e (λ mean. emits_made (moved mean))
    (λ mean p best. emits_made (corrected mean p tt best (nothing_measured mean best)))
emits_made (More d le) = emits_made d
emits_made (Wider e d) = Emits_more _ e (emits_made d)

-- a row that is made of some sorts of acts puts acts of these sorts alone, and so of more
pub emits_built : {few all : List Sort} {k c : ℕ} {r r' : Row} → is_part few all ≡ true → Built unchanged nothing_owed few k c r r' → Emits all r
emits_built e d = Emits_more _ e (emits_made d)
