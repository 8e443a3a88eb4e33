-- What follows for each row from how it is made: how many acts it puts, and that they are calm.
use Rattle.std.proofs.Common.{sym, ap, arith, true≢false, length-append, ◌∙◌, ◌≡◌, ◌≤◌, ℕ, suc, ◌+◌, ◌*◌, ◌==◌, not, ℤ, Bool, true, false, if◌then◌else◌, List}
use Rattle.std.proofs.Common.{[], ◌∷◌, ◌++◌, length, map, Option, None, Some, refl}
use Rattle.std.proofs.lemmas.Bool.{leb-true, and_parts, and_from}
use Rattle.tsp_rules.specs.Values.{Act, Boot, Took, Post, Abandon, Correct, Ring, CloseAlarm, Datagram, Message, Ack, PeerId, Place, Peer, Stranger, SPAN}
use Rattle.tsp_base.specs.Words.{Past, Estimate, in_table, is_measured, is_rival, Row, Sending, bare, for_each, grown, nothing, posts_back, puts, reading}
use Rattle.tsp_base.specs.Words.{either_by, ◌followed_by◌}
use Rattle.tsp_group.specs.{Groups.group_of, declared.group.Group.Group}
use Rattle.tsp_rules.specs.{ClockRows.adjusts, ClockRows.can_adjust, ClockRows.sets, CommonRows.posts_reply, CommonRows.replies}
use Rattle.tsp_rules.specs.GateRows.{loop_to, repost, reposts, sends_loops}
use Rattle.tsp_rules.specs.{Guards.is_in_range, SendRows.begins_settime, SendRows.repeats, Strangers.is_stranger}
use Rattle.tsp_rules.specs.RoundRows.{abandons, asks, close_act, closes, closes_with, corrects_by, corrects_peer, estimates, mean_by, measured_at, moves}
use Rattle.tsp_rules.specs.RoundRows.{round_at, Standing, standing}
use Rattle.tsp_rules.proofs.Emits.{Sort, Moving, is_in, is_in_part}
use Rattle.tsp_rules.proofs.FewActs.{is_calm_act, is_calm, Calm, calm_append, calm_none, calm_puts, calm_then, calm_either, calm_reading, calm_more, calm_arms}
use Rattle.tsp_rules.proofs.FewActs.{calm_posts, calm_posts_time, calm_posts_to_others, calm_others, calm_each, each_few, each_calm, filter_few}
use Rattle.tsp_rules.proofs.Unchanged.{no_unchanged, told_unchanged, unchanged, yes_unchanged}
use Rattle.tsp_rules.proofs.RowCodes.{Value, APlace, ATaken, Owed, Leaf, Puts, Takes, Arms, Posts, ToOthers, PostsBack, PostsTime, PostsReply, PostsName}
use Rattle.tsp_rules.proofs.RowCodes.{SettimeBegins, Loops, Reposts, Asks, Adjusts, Sets, Valued, TicketAt, NextNumber, MasterName, Listed, Others, Rivals}
use Rattle.tsp_rules.proofs.RowCodes.{Table, Measured, is_plain}
use Rattle.tsp_rules.proofs.Built.{Built, Corrects, Empty, At, Then, Either, If, Reading, ReadingValue, Each, EachSend, Closes, More, Wider}

-- an answer goes back to a stranger only where that is allowed, and nothing is taken
abbrev pub Backs : Bool → Value → Type 0
Backs strange (APlace from) = is_stranger from ≡ true → strange ≡ true
Backs strange (ATaken t) = ⊥
Backs strange v = Unit {0}

abbrev pub answers_owed : Bool → Owed
answers_owed strange = record { of = Backs strange; zero = tt; near = λ p e. absurd (true≢false (sym e)) }

plain_calm : (strange moving : Bool) (a : Act) → is_plain a ≡ true → is_calm_act strange moving a ≡ true
plain_calm strange moving Boot e = absurd (true≢false (sym e))
plain_calm strange moving (Took from t) e = absurd (true≢false (sym e))
plain_calm strange moving (Post to datagram) e = absurd (true≢false (sym e))
plain_calm strange moving (Correct amount stepped shown) e = absurd (true≢false (sym e))
plain_calm strange moving _ e = refl

back_calm : (strange moving : Bool) (from : Place) (datagram : Datagram) → (is_stranger from ≡ true → strange ≡ true) →
    is_calm_act strange moving (Post from datagram) ≡ true
back_calm strange moving (Peer p) datagram back = refl
back_calm strange moving Stranger datagram back = back refl

few_listed : {fact fact' : ℕ → Past → List PeerId} → Listed unchanged fact fact' → (x : ℕ) (past : Past) → length (fact x past) ≤ length past.peers
few_listed Others x past = filter_few (λ p. not (p.0 == past.own.0)) past.peers
few_listed Rivals x past = filter_few (λ p. is_rival p past.seen) past.peers
few_listed Table x past = filter_few (λ p. in_table p past.seen) past.peers
few_listed Measured x past = filter_few (λ p. is_measured p past.seen) past.peers

-- a round has no more standings than peers
round_few : (x : ℕ) (past : Past) → length (round_at x past) ≤ length past.peers
round_few x past =
    let some = filter_few (λ p. is_measured p past.seen) past.peers in
    omega (arith, some, map_same (measured_at x past))
  where
    map_same : (ps : List PeerId) → length (map (standing past.seen) ps) ≡ length ps
    map_same [] = refl
    map_same (p ∷ ps) = ap (λ n. suc n) (map_same ps)

module _ (strange moving : Bool) where
  leaf_calm : {few : List Sort} {k c : ℕ} {r r' : Row} → (is_in Moving few ≡ true → moving ≡ true) → Leaf unchanged (answers_owed strange) few k c r r' →
      Calm strange moving k c r
  unfolding replies posts_reply repeats posts_back asks begins_settime adjusts sets sends_loops reposts
  leaf_calm may (Puts a plain knows) = calm_puts a (plain_calm strange moving a plain)
  leaf_calm may (Takes from t is) = absurd is
  leaf_calm may (Arms alarm long wakes) = calm_arms alarm long
  leaf_calm may (Posts p kind number known is fits) = calm_posts p kind number
  leaf_calm may (ToOthers kind fits) = calm_posts_to_others kind 0
  leaf_calm may (PostsBack from kind number place back is fits) = record {
    few = λ x past. omega arith;
    calm = λ x past. and_from _ true (back_calm strange moving from (Message (bare kind number past.name)) back) refl;
  }
  leaf_calm may (PostsTime p kind number time known is timely fits) = calm_posts_time p kind number time
  leaf_calm may (PostsReply from word counter place back is) = calm_either 0 1 is_in_range (posts_reply from word counter) nothing
      (record { few = λ x past. omega arith; calm = λ x past. and_from _ true (back_calm strange moving from _ back) refl }) (calm_none 0 1)
  leaf_calm may (PostsName from number name place back is named) = calm_puts _ (back_calm strange moving from (Message (bare Ack number name)) back)
  leaf_calm may (SettimeBegins p number known is) = calm_either 0 1 _ _ nothing (calm_reading 0 1 _ _ (λ t. calm_posts_time p _ number t)) (calm_none 0 1)
  leaf_calm may (Loops q is) = calm_others (sends_loops q) (λ past. loop_to q past.name) (λ x past. refl) (λ past p. refl)
  leaf_calm may (Reposts msg is) = calm_others (reposts msg) (λ past. repost msg) (λ x past. refl) (λ past p. refl)
  leaf_calm may (Asks p known) = record { few = λ x past. omega arith; calm = λ x past. refl }
  leaf_calm may (Adjusts amount) = record { few = λ x past. omega arith; calm = λ x past. and_from moving true (may refl) refl }
  leaf_calm may (Sets value) = record { few = λ x past. omega arith; calm = λ x past. and_from moving true (may refl) refl }
  leaf_calm may _ = calm_puts _ refl

  value_calm : {A : Type 0} {f : A → A} {value : A → Value} {fact fact' : ℕ → Past → A} → Valued unchanged A f value fact fact' → (a : A) →
      Backs strange (value a)
  value_calm TicketAt n = tt
  value_calm NextNumber n = tt
  value_calm MasterName name = tt

  correct_calm : (mean : ℤ) (best : Option Estimate) → Corrects (answers_owed strange) mean best
  correct_calm mean None = tt
  correct_calm mean (Some b) = (tt, λ e. tt)

  -- a row about a peer's open send, which does nothing if there is none
  open_calm : {c : ℕ} (row : Option Sending → Row) → row None ≡ nothing → ((s : Sending) → Calm strange moving 0 c (row (Some s))) → (q : Option Sending) →
      Calm strange moving 0 c (row q)
  open_calm row none d None = rw none (calm_none _ _)
  open_calm row none d (Some s) = d s

  -- a close: few acts, since the round has no more standings than there are peers
  module _ (own : Bool) (moved : (mean : ℤ) → Calm strange moving 0 1 (moves own mean)) (corrected : (mean : ℤ) (p : PeerId) (best : Option Estimate) →
      Calm strange moving 0 1 (corrects_by mean p best)) where
    each-corrected : (mean : ℤ) (s : Standing) → Calm strange moving 0 1 (corrects_peer mean s)
    unfolding corrects_peer
    each-corrected mean s = corrected mean s.peer s.best

    close-few : (g : Group) (round : List Standing) (x : ℕ) (past : Past) → length round ≤ length past.peers →
        length (closes_with own g round x past) ≤ 1 * length past.peers + 2
    unfolding closes_with either_by ◌followed_by◌ puts abandons
    close-few g round x past few = by_case (can_adjust (mean_by own g) x past) where
      by_case : (b : Bool) →
          length (if b then (close_act own g ∷ []) ++ (moves own (mean_by own g) x (grown x past (close_act own g ∷ [])) ++
          for_each (corrects_peer (mean_by own g)) round x (grown x (grown x past (close_act own g ∷ []))
          (moves own (mean_by own g) x (grown x past (close_act own g ∷ []))))) else Abandon ∷ [])
          ≤ 1 * length past.peers + 2
      by_case true =
          let mean = mean_by own g in
          let now = grown x past (close_act own g ∷ []) in
          let acts = moves own mean x now in
          let each = each_few 1 (corrects_peer mean) (each-corrected mean) round x (grown x now acts) in
          let whole = length-append acts (for_each (corrects_peer mean) round x (grown x now acts)) in
          let left : 0 * length now.peers ≡ 0 = grind arith in
          let right : 1 * length past.peers ≡ length past.peers = grind arith in
          let same : 1 * length round ≡ length round = grind arith in
          omega (arith, (moved mean).few x now, each, whole, few, left, right, same)
      by_case false = omega arith

    close-calm : (g : Group) (round : List Standing) (x : ℕ) (past : Past) → is_calm strange moving (closes_with own g round x past) ≡ true
    unfolding closes_with either_by ◌followed_by◌ puts abandons
    close-calm g round x past = by_case (can_adjust (mean_by own g) x past) where
      by_case : (b : Bool) →
          is_calm strange moving (if b then (close_act own g ∷ []) ++ (moves own (mean_by own g) x (grown x past (close_act own g ∷ [])) ++
          for_each (corrects_peer (mean_by own g)) round x (grown x (grown x past (close_act own g ∷ []))
          (moves own (mean_by own g) x (grown x past (close_act own g ∷ []))))) else Abandon ∷ [])
          ≡ true
      by_case true =
          let mean = mean_by own g in
          let now = grown x past (close_act own g ∷ []) in
          let acts = moves own mean x now in
          calm_append strange moving acts (for_each (corrects_peer mean) round x (grown x now acts)) ((moved mean).calm x now)
          (each_calm 1 (corrects_peer mean) (each-corrected mean) round x (grown x now acts))
      by_case false = refl

    closes-calm : Calm strange moving 1 3 (reading round_at (closes own))
    unfolding reading closes ◌followed_by◌ puts
    closes-calm = record {
      few = λ x past.
          let round = round_at x past in
          let some = close-few (group_of SPAN (estimates round)) round x (grown x past (Ring CloseAlarm ∷ [])) (round_few x past) in
          omega (arith, some);
      calm = λ x past. close-calm (group_of SPAN (estimates (round_at x past))) (round_at x past) x (grown x past (Ring CloseAlarm ∷ []));
    }

  calm_made : {sorts : List Sort} {k c : ℕ} {r r' : Row} → (is_in Moving sorts ≡ true → moving ≡ true) → Built unchanged (answers_owed strange) sorts k c r r' →
      Calm strange moving k c r
  calm_made may Empty = calm_none _ _
  calm_made {sorts} may (At {few = few} leaf e) = leaf_calm (λ h. may (is_in_part Moving few sorts e h)) leaf
  calm_made may (Then d e) = calm_then _ _ _ _ _ _ (calm_made may d) (calm_made may e)
  calm_made may (Either t d e) = calm_either _ _ _ _ _ (calm_made may (d (yes_unchanged t))) (calm_made may (e (no_unchanged t)))
  calm_made may (If true b' same d e) = calm_made may (d refl)
  calm_made may (If false b' same d e) = calm_made may e
  calm_made may (Reading rows f d) = calm_reading _ _ _ _ (λ a. calm_made may (d a (told_unchanged f a)))
  calm_made may (ReadingValue rows f d) = calm_reading _ _ _ _ (λ a. calm_made may (d a (value_calm f a)))
  calm_made may (Each row l d) = calm_each _ _ _ (few_listed l) (λ p. calm_made may (d p tt))
  calm_made may (EachSend row row' none none' d) = calm_each _ _ _ (λ x past. omega arith)
      (λ p. calm_reading _ _ _ _ (open_calm (row p) (none p) (λ s. calm_made may (d p tt s tt))))
  calm_made may (Closes own e moved corrected) = closes-calm own (λ mean. calm_made may (moved mean))
      (λ mean p best. calm_made may (corrected mean p tt best (correct_calm mean best)))
  calm_made may (More d le) = let both = and_parts _ _ le in calm_more _ _ _ _ _ (leb-true _ _ both.0) (leb-true _ _ both.1) (calm_made may d)
  calm_made {sorts} may (Wider {few = few} e d) = calm_made (λ h. may (is_in_part Moving few sorts e h)) d

-- a row is calm where it moves the clock only if it may
pub calm_built : {strange moving : Bool} {sorts : List Sort} {k c : ℕ} {r r' : Row} → (is_in Moving sorts ≡ true → moving ≡ true) →
    Built unchanged (answers_owed strange) sorts k c r r' → Calm strange moving k c r
calm_built {strange} {moving} may d = calm_made strange moving may d

-- the clock may be moved
pub calm_moving : {strange : Bool} {sorts : List Sort} {k c : ℕ} {r r' : Row} → Built unchanged (answers_owed strange) sorts k c r r' → Calm strange true k c r
calm_moving d = calm_built (λ e. refl) d

-- it isn't moved
pub calm_unmoving : {strange moving : Bool} {sorts : List Sort} {k c : ℕ} {r r' : Row} → is_in Moving sorts ≡ false →
    Built unchanged (answers_owed strange) sorts k c r r' → Calm strange moving k c r
calm_unmoving none d = calm_built (λ e. absurd (true≢false (sym e ∙ none))) d
