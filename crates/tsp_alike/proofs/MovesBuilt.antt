-- Rows that put acts put the same at alike pasts, but for the names of peers and later ticks; so every derived row moves.
use Rattle.std.proofs.lemmas.List.Elements.{All-nil, All-cons, All-head, All-tail, All-append}
use Rattle.std.proofs.{lemmas.List.map-append, lemmas.Bool.and_parts}
use Rattle.std.proofs.Common.{ap, ap₂, true≢false, arith, ◌∙◌, ◌≡◌, ℕ, ◌+◌, ◌%◌, ◌^◌, ℤ, ◌+ℤ◌, ◌-ℤ◌, Bool, true, false, if◌then◌else◌, List, [], ◌∷◌, map, refl}
use Rattle.std.proofs.Common.{sym, subst, ◌==◌, not, ◌++◌, All, Option, None, Some}
use Rattle.tsp_rules.specs.Guards.{is_in_range, target_at, delay, is_due, is_own, may_stand_at}
use Rattle.tsp_rules.specs.SendRows.{begins_settime, may_set, repeats, open_at, peers_at}
use Rattle.tsp_rules.{specs.CommonRows.posts_reply, specs.CommonRows.replies, specs.CommonRows.master_name_in, proofs.GuardFacts.same_peer}
use Rattle.tsp_rules.{specs.GateRows.loop_to, specs.GateRows.repost, specs.GateRows.reposts, specs.GateRows.sends_loops, proofs.Emits.Sort}
use Rattle.tsp_rules.proofs.EmitsBuilt.{nothing_owed, nothing_measured}
use Rattle.tsp_rules.specs.ClockRows.{adjusts, is_step, sets}
use Rattle.tsp_rules.specs.Renames.{Renaming, Naming, renamed_act, renamed_place, renamed_role, Knows, Wakes, known_place, later_send, later_sends}
use Rattle.tsp_rules.specs.RoundRows.{asks, Standing, abandons, close_act, closes, closes_with, corrects_by, corrects_peer, estimates, mean_by, moves, round_at}
use Rattle.tsp_rules.specs.Values.{Act, Post, Correct, Arm, Message, Stamp, SetTime, PeerId, Peer, Request, Reply, Role, Follow, Ring, Abandon, Alarm, Window}
use Rattle.tsp_rules.specs.Values.{CloseAlarm, Place, Stranger, SPAN}
use Rattle.tsp_rules.proofs.RowCodes.{Value, Leaf, Fact, Valued, Puts, Takes, Arms, Posts, ToOthers, PostsBack, PostsTime, PostsReply, PostsName, Repeats}
use Rattle.tsp_rules.proofs.RowCodes.{SettimeBegins, Loops, Reposts, Asks, Samples, Adjusts, Sets, RoleAt, DelayAt, OwnAt, TargetAt, RequestAt, TicketAt}
use Rattle.tsp_rules.proofs.RowCodes.{NextNumber, MasterName, Others, is_plain, Test, yes, no, Due, MayStand, MayBeAsked, IsOwn}
use Rattle.tsp_rules.proofs.Built.{Built, Empty, At, Then, Either, If, Reading, ReadingValue, Each, EachSend, Closes, More, Wider}
use Rattle.tsp_base.specs.Words.{Past, plain, arms, bare, nothing, others, post_of, posts, posts_back, posts_time, posts_to_others, puts, shown, timed, word}
use Rattle.tsp_base.specs.Words.{either_by, reading, kept_name, role, Step, Acts, Row, Seen, added, grown, ◌followed_by◌, for_each, Estimate, Sending}
use Rattle.tsp_base.specs.Words.{open_send}
use Rattle.tsp_alike.proofs.{Alike.AlikePast, Alike.Alike, Alike.Own, Alike.Moves, Alike.MovesAt, Renamed.renamed_standing}
use Rattle.tsp_alike.proofs.NodesAlike.{later_known}
use Rattle.tsp_alike.proofs.PortAlike.{Facts, facts_alike, role_alike, role_known, open_send_alike}
use Rattle.tsp_alike.proofs.RoundsAlike.{request_open_alike, plain_alike, shown_alike, word_alike, target_alike, ticket_alike}
use Rattle.tsp_alike.proofs.TestsAlike.{is_in_range_alike, may_set_alike, can_adjust_alike, due_stands, test_same}
use Rattle.tsp_alike.proofs.ListsAlike.{list_known, Unnamed, list_same, open_send_renamed, open_send_unnamed, round_at_alike, round_at_known, acts_renamed}
use Rattle.tsp_alike.proofs.ListsAlike.{mapped_known, same_estimates}
use Rattle.tsp_group.specs.{declared.group.Group.Group, Groups.group_of}

-- how moving rows are put together

module _ {m : Naming} where
  added_alike : (s s' : Step) (x : ℕ) (acts : List Act) → All (Knows m) acts → {seen seen' : List Seen} → Alike m seen seen' →
      Alike m (added s x acts seen) (added s' (x + m.names.shift) (map (renamed_act m.names) acts) seen')
  added_alike s s' x [] known a = a
  added_alike s s' x (act ∷ acts) known a =
      let first = All-head (Knows m) act acts known in
      added_alike s s' x acts (All-tail (Knows m) act acts known) (Own s s' x (Acts act) (later_known m act first) first a)

  -- pasts to which acts were added that move are alike again
  pub grown_alike : (x : ℕ) (p q : Past) (acts acts' : List Act) → AlikePast m p q → MovesAt m acts acts' →
      AlikePast m (grown x p acts) (grown (x + m.names.shift) q acts')
  grown_alike x p q acts acts' a k = record {
    setup = a.setup;
    name = a.name;
    may = a.may;
    strict = a.strict;
    stands = a.stands;
    seen = subst (λ l. Alike m (added p.step x acts p.seen) (added q.step (x + m.names.shift) l q.seen)) (sym k.same)
        (added_alike p.step q.step x acts k.known a.seen);
  }

  pub none_move : MovesAt m [] []
  none_move = record { same = refl; known = All-nil (Knows m) }

  pub nothing_moves : Moves m nothing nothing
  unfolding nothing
  nothing_moves = record { at = λ x p q a. none_move }

  pub then_moves : (r r' s s' : Row) → Moves m r r' → Moves m s s' → Moves m (r followed_by s) (r' followed_by s')
  unfolding ◌followed_by◌
  then_moves r r' s s' k l = record {
    at = λ x p q a.
        let first = k.at x p q a in
        let mid : Past = grown x p (r x p) in
        let mid' : Past = grown (x + m.names.shift) q (r' (x + m.names.shift) q) in
        let next = l.at x mid mid' (grown_alike x p q (r x p) (r' (x + m.names.shift) q) a first) in
        record {
          same = ap (λ z. z ++ s' (x + m.names.shift) mid') first.same ∙ ap (λ z. map (renamed_act m.names) (r x p) ++ z) next.same ∙
              sym (map-append (renamed_act m.names) (r x p) (s x mid));
          known = All-append (Knows m) (r x p) (s x mid) first.known next.known;
        };
  }

  -- a row that a test chooses, which says the same on both sides
  pub either_moves : (t t' : ℕ → Past → Bool) (r r' s s' : Row) → ((x : ℕ) (p q : Past) → AlikePast m p q → t' (x + m.names.shift) q ≡ t x p) →
      ((x : ℕ) (p q : Past) → AlikePast m p q → t x p ≡ true → Moves m r r') → ((x : ℕ) (p q : Past) → AlikePast m p q → t x p ≡ false → Moves m s s') →
      Moves m (either_by t r s) (either_by t' r' s')
  unfolding either_by
  either_moves t t' r r' s s' same k l = record {
    at = λ x p q a. subst (λ b. MovesAt m (if t x p then r x p else s x p) (if b then r' (x + m.names.shift) q else s' (x + m.names.shift) q))
        (sym (same x p q a)) (by_case x p q a (t x p) refl);
  } where
    by_case : (x : ℕ) (p q : Past) → AlikePast m p q → (b : Bool) → t x p ≡ b → MovesAt m (if b then r x p else s x p)
        (if b then r' (x + m.names.shift) q else s' (x + m.names.shift) q)
    by_case x p q a true e = (k x p q a e).at x p q a
    by_case x p q a false e = (l x p q a e).at x p q a

  -- a row for each of some known peers
  pub each_moves : (row row' : PeerId → Row) → ((p : PeerId) → m.known p → Moves m (row p) (row' (m.names.peer p))) → (ps : List PeerId) → All m.known ps →
      Moves m (for_each row ps) (for_each row' (map m.names.peer ps))
  unfolding for_each
  each_moves row row' k [] known = nothing_moves
  each_moves row row' k (p ∷ ps) known = then_moves (row p) (row' (m.names.peer p)) (for_each row ps) (for_each row' (map m.names.peer ps))
      (k p (All-head m.known p ps known)) (each_moves row row' k ps (All-tail m.known p ps known))

-- a row for each peer is a row for each other one, if it does nothing for the port's own number; what holds of the past on the way is kept by the rows of the
-- others
pub skips_own : (row : PeerId → Row) (x : ℕ) (own : PeerId) (Holds : Past → Type 0) (Other : PeerId → Type 0) →
    ((p : Past) → Holds p → (r : PeerId) → (r.0 == own.0) ≡ true → row r x p ≡ []) →
    ((r : PeerId) → Other r → (p : Past) → Holds p → Holds (grown x p (row r x p))) → (ps : List PeerId) → All Other (others own ps) → (p : Past) → Holds p →
    for_each row ps x p ≡ for_each row (others own ps) x p
unfolding for_each ◌followed_by◌
skips_own row x own Holds Other none keeps [] known p h = refl
skips_own row x own Holds Other none keeps (r ∷ ps) known p h = by_case (r.0 == own.0) refl known (λ k q i. skips_own row x own Holds Other none keeps ps k q i)
  where
    by_case : (b : Bool) → (r.0 == own.0) ≡ b → All Other (if not b then r ∷ others own ps else others own ps) →
        (All Other (others own ps) → (q : Past) → Holds q → for_each row ps x q ≡ for_each row (others own ps) x q) →
        row r x p ++ for_each row ps x (grown x p (row r x p)) ≡ for_each row (if not b then r ∷ others own ps else others own ps) x p
    by_case true e k rest = ap (λ z. z ++ for_each row ps x (grown x p z)) (none p h r e) ∙ rest k p h
    by_case false e k rest = ap (λ z. row r x p ++ z) (rest (All-tail Other r (others own ps) k) (grown x p (row r x p))
        (keeps r (All-head Other r (others own ps) k) p h))

-- facts that rows read are the same at alike pasts, but for the names of peers and later ticks
name_in_role : (n : Renaming) (r : Role) (own kept : List ℕ) → master_name_in (renamed_role n r) own kept ≡ master_name_in r own kept
name_in_role n (Follow p) own kept = refl
name_in_role n _ own kept = refl

module _ {m : Naming} {p q : Past} (a : AlikePast m p q) (x : ℕ) where
  pub fact_same : {A : Type 0} {f : A → A} {told : A → Type 0} {fact fact' : ℕ → Past → A} → Fact m A f told fact fact' →
      fact' (x + m.names.shift) q ≡ f (fact x p)
  fact_same RoleAt = role_alike a.seen
  fact_same DelayAt = ap delay (word_alike (plain_alike a.seen))
  fact_same OwnAt = a.setup.own
  fact_same TargetAt = target_alike (plain_alike a.seen) x
  fact_same (RequestAt r counter) = request_open_alike r counter a.seen

  -- a followed peer is known, and a candidate may stand for election
  pub fact_told : {A : Type 0} {f : A → A} {told : A → Type 0} {fact fact' : ℕ → Past → A} → Fact m A f told fact fact' → told (fact x p)
  fact_told RoleAt = role_known a.seen
  fact_told _ = tt

  pub value_same : {A : Type 0} {f : A → A} {value : A → Value} {fact fact' : ℕ → Past → A} → Valued m A f value fact fact' →
      fact' (x + m.names.shift) q ≡ f (fact x p)
  value_same TicketAt = ticket_alike (plain_alike a.seen)
  value_same NextNumber = ap₂ (λ w k. 32768 + (w + k) % 32768) (word_alike (plain_alike a.seen)) (ap (λ (f : Facts). f.begun) (facts_alike a.seen))
  value_same MasterName =
      ap₂ (λ r own. master_name_in r own (kept_name q.seen)) (role_alike a.seen) a.name
      ∙ name_in_role m.names (role p.seen) p.name (kept_name q.seen)
      ∙ ap (master_name_in (role p.seen) p.name) (ap (λ (f : Facts). f.kept_name) (facts_alike a.seen))

-- acts that move
module _ {m : Naming} {p q : Past} (a : AlikePast m p q) (x : ℕ) where
  one : {act act' : Act} → act' ≡ renamed_act m.names act → Knows m act → MovesAt m (act ∷ []) (act' ∷ [])
  one {act} e known = record { same = ap (λ z. z ∷ []) e; known = All-cons (Knows m) act [] known (All-nil (Knows m)) }

  -- one for each other peer
  for_others : (act act' : PeerId → Act) → ((r : PeerId) → act' (m.names.peer r) ≡ renamed_act m.names (act r)) →
      ((r : PeerId) → m.known r → Knows m (act r)) →
      MovesAt m (map act (others p.own p.peers)) (map act' (others q.own q.peers))
  for_others act act' same known = record {
    same = ap (map act') a.setup.others_are ∙ acts_renamed m.names act act' same (others p.own p.peers);
    known = mapped_known m act known (others p.own p.peers) (list_known a x Others);
  }

  -- those that stand behind a test
  only_if : (b b' : Bool) → b' ≡ b → {acts acts' : List Act} → MovesAt m acts acts' →
      MovesAt m (if b then acts else []) (if b' then acts' else [])
  only_if true true e k = k
  only_if false false e k = none_move
  only_if true false e k = absurd (true≢false (sym e))
  only_if false true e k = absurd (true≢false e)

  -- the value that a correction shows
  shown_if : (amount : ℤ) (b : Bool) → (if b then target_at (x + m.names.shift) q +ℤ amount else shown (plain q.seen) (x + m.names.shift)) ≡
      (if b then target_at x p +ℤ amount else shown (plain p.seen) x)
  shown_if amount true = ap (λ t. t +ℤ amount) (target_alike (plain_alike a.seen) x)
  shown_if amount false = shown_alike (plain_alike a.seen) x

  pub leaf_at : {few : List Sort} {k c : ℕ} {r r' : Row} → Leaf m nothing_owed few k c r r' → MovesAt m (r x p) (r' (x + m.names.shift) q)
  unfolding puts arms posts posts_to_others posts_back posts_time replies posts_reply repeats begins_settime reading either_by nothing sends_loops reposts asks
      adjusts sets
  leaf_at (Puts act plain known) = one refl known
  leaf_at (Takes from t owed) = one refl tt
  leaf_at (Arms alarm long known) =
      let e : (x + m.names.shift) + long ≡ (x + long) + m.names.shift = omega arith in one (ap (Arm alarm) e) known
  leaf_at (Posts r kind number known owed fits) = one (ap (λ name. post_of kind number name (m.names.peer r)) a.name) known
  leaf_at (ToOthers kind fits) =
      for_others (post_of kind 0 p.name) (post_of kind 0 q.name) (λ r. ap (λ name. post_of kind 0 name (m.names.peer r)) a.name) (λ r k. k)
  leaf_at (PostsBack from kind number known back owed fits) =
      one (ap (λ name. Post (renamed_place m.names from) (Message (bare kind number name))) a.name) known
  leaf_at (PostsTime r kind number time known owed timely fits) =
      one (ap (λ name. Post (Peer (m.names.peer r)) (Message (timed kind number time name))) a.name) known
  leaf_at (PostsReply from w counter known back owed) = only_if (is_in_range x p) _ (is_in_range_alike a x) (one
      (ap₂ (λ k t. Post (renamed_place m.names from) (Stamp (Reply (record { ticket = k; word = w; counter = counter; reading = t }))))
      (ticket_alike (plain_alike a.seen)) (target_alike (plain_alike a.seen) x))
      known)
  leaf_at (PostsName from number name known back owed named) = one refl known
  leaf_at (Repeats r s known owed) = one refl known
  leaf_at (SettimeBegins r number known owed) = only_if (may_set r number x p) _ (may_set_alike a r number x)
      (one (ap₂ (λ name t. Post (Peer (m.names.peer r)) (Message (timed SetTime number t name))) a.name
      (target_alike (plain_alike a.seen) x)) known)
  leaf_at (Loops port owed) =
      for_others (loop_to port p.name) (loop_to port q.name) (λ r. ap (λ name. loop_to port name (m.names.peer r)) a.name) (λ r k. k)
  leaf_at (Reposts msg owed) = for_others (repost msg) (repost msg) (λ r. refl) (λ r k. k)
  leaf_at (Asks r known) =
      one (ap₂ (λ w k. Post (Peer (m.names.peer r)) (Stamp (Request w (k % 2 ^ 64))))
      (word_alike (plain_alike a.seen)) (ap (λ (f : Facts). f.asked) (facts_alike a.seen))) known
  leaf_at (Samples r reply sent now known owed) = one refl known
  leaf_at (Adjusts amount) = one (ap (Correct amount (is_step amount)) (shown_if amount (is_step amount))) tt
  leaf_at (Sets value) = one (ap (λ t. Correct (value -ℤ t) true value) (target_alike (plain_alike a.seen) x)) tt

-- the first of two pasts that are alike; and the second
record First (m : Naming) (p : Past) : Type 0 where
  pub other : Past
  pub alike : AlikePast m p other

record Second (m : Naming) (q : Past) : Type 0 where
  pub other : Past
  pub alike : AlikePast m other q

-- the other name of a known peer
record Renamed (m : Naming) (r : PeerId) : Type 0 where
  pub peer : PeerId
  pub known : m.known peer
  pub is : r ≡ m.names.peer peer

module _ {m : Naming} where
  wakes_due : (alarm : Alarm) (x : ℕ) (p q : Past) → AlikePast m p q → is_due alarm x p ≡ true → Wakes m alarm
  wakes_due Window x p q a e = due_stands a x e
  wakes_due _ x p q a e = tt

  test_yes : {t t' : ℕ → Past → Bool} → (test : Test m t t') → (x : ℕ) (p q : Past) → AlikePast m p q → t x p ≡ true → yes test
  test_yes (Due alarm) x p q a e = wakes_due alarm x p q a e
  test_yes MayStand x p q a e = a.stands (and_parts p.may _ e).0
  test_yes MayBeAsked x p q a e = a.stands (and_parts p.may _ (and_parts _ (may_stand_at x p) e).1).0
  test_yes _ x p q a e = tt

  known_place_holds : (from : Place) (x : ℕ) (p q : Past) → AlikePast m p q → Rattle.tsp_rules.specs.Renames.comes_place m from → is_own from x p ≡ false →
      known_place m from
  known_place_holds (Peer r) x p q a comes e = a.setup.heard r comes e
  known_place_holds Stranger x p q a comes e = tt

  test_no : {t t' : ℕ → Past → Bool} → (test : Test m t t') → (x : ℕ) (p q : Past) → AlikePast m p q → t x p ≡ false → no test
  test_no (IsOwn from comes) x p q a e = known_place_holds from x p q a comes e
  test_no _ x p q a e = tt

  reading_moves : {A : Type 0} (f : A → A) (fact fact' : ℕ → Past → A) (rows rows' : A → Row) →
      ((x : ℕ) (p q : Past) → AlikePast m p q → fact' (x + m.names.shift) q ≡ f (fact x p)) →
      ((x : ℕ) (p q : Past) → AlikePast m p q → Moves m (rows (fact x p)) (rows' (f (fact x p)))) → Moves m (reading fact rows) (reading fact' rows')
  unfolding reading
  reading_moves f fact fact' rows rows' same k = record {
    at = λ x p q a. subst (λ v. MovesAt m (rows (fact x p) x p) (rows' v (x + m.names.shift) q))
        (sym (same x p q a)) ((k x p q a).at x p q a);
  }

  one_send : (row row' : PeerId → Option Sending → Row) → ((p : PeerId) → row p None ≡ nothing) → ((p : PeerId) → row' p None ≡ nothing) →
      ((p : PeerId) → m.known p → (s : Sending) → Moves m (row p (Some s)) (row' (m.names.peer p) (Some (later_send m.names s)))) →
      (r : PeerId) → m.known r → Moves m (reading (open_at r) (row r)) (reading (open_at (m.names.peer r)) (row' (m.names.peer r)))
  one_send row row' none none' k r known = reading_moves (later_sends m.names) (open_at r) (open_at (m.names.peer r)) (row r) (row' (m.names.peer r))
      (λ x p q a. open_send_alike r a.seen) (λ x p q a. by_case (open_at r x p)) where
        by_case : (o : Option Sending) → Moves m (row r o) (row' (m.names.peer r) (later_sends m.names o))
        by_case None = rw (none r, none' (m.names.peer r)) nothing_moves
        by_case (Some s) = k r known s

  all_renamed : (ps : List PeerId) → All m.known ps → All (Renamed m) (map m.names.peer ps)
  all_renamed [] known = All-nil (Renamed m)
  all_renamed (p ∷ ps) known = All-cons (Renamed m) (m.names.peer p) (map m.names.peer ps) (record { peer = p; known = All-head m.known p ps known; is = refl })
      (all_renamed ps (All-tail m.known p ps known))

  none_first : (row : PeerId → Option Sending → Row) → ((p : PeerId) → row p None ≡ nothing) → (x : ℕ) (own : PeerId) → Unnamed m own → (p : Past) → First m p →
      (r : PeerId) → (r.0 == own.0) ≡ true → reading (open_at r) (row r) x p ≡ []
  unfolding reading nothing
  none_first row none x own apart p h r e =
      subst (λ o. row o (open_send o p.seen) x p ≡ []) (sym (same_peer r own e)) (ap (λ s. row own s x p) (open_send_unnamed own apart h.alike.seen) ∙
      ap (λ z. z x p) (none own))

  none_second : (row : PeerId → Option Sending → Row) → ((p : PeerId) → row p None ≡ nothing) → (x : ℕ) (own own' : PeerId) → own' ≡ m.names.peer own →
      Unnamed m own → (q : Past) → Second m q → (r : PeerId) → (r.0 == own'.0) ≡ true → reading (open_at r) (row r) x q ≡ []
  unfolding reading nothing
  none_second row none x own own' is apart q h r e =
      subst (λ o. row o (open_send o q.seen) x q ≡ []) (sym (same_peer r own' e ∙ is))
      (ap (λ s. row (m.names.peer own) s x q) (open_send_renamed own apart h.alike.seen) ∙ ap (λ z. z x q) (none (m.names.peer own)))

  first_grown : (x : ℕ) (row row' : Row) → Moves m row row' → (p : Past) → First m p → First m (grown x p (row x p))
  first_grown x row row' k p h = record {
    other = grown (x + m.names.shift) h.other (row' (x + m.names.shift) h.other);
    alike = grown_alike x p h.other _ _ h.alike (k.at x p h.other h.alike);
  }

  second_grown : (x : ℕ) (two one : PeerId → Row) → ((r : PeerId) → m.known r → Moves m (one r) (two (m.names.peer r))) → (r : PeerId) → Renamed m r →
      (q : Past) → Second m q → Second m (grown (x + m.names.shift) q (two r (x + m.names.shift) q))
  second_grown x two one k r named q h = record {
    other = grown x h.other (one named.peer x h.other);
    alike = subst (λ z. AlikePast m (grown x h.other (one named.peer x h.other)) (grown (x + m.names.shift) q (two z (x + m.names.shift) q))) (sym named.is)
        (grown_alike x h.other q _ _ h.alike ((k named.peer named.known).at x h.other q h.alike));
  }

  -- a row for each peer that has an open send
  sends_move : (row row' : PeerId → Option Sending → Row) → ((p : PeerId) → row p None ≡ nothing) → ((p : PeerId) → row' p None ≡ nothing) →
      ((p : PeerId) → m.known p → (s : Sending) → Moves m (row p (Some s)) (row' (m.names.peer p) (Some (later_send m.names s)))) →
      Moves m (reading peers_at (for_each (λ p. reading (open_at p) (row p)))) (reading peers_at (for_each (λ p. reading (open_at p) (row' p))))
  unfolding reading
  sends_move row row' none none' k = record {
    at = λ x p q a.
        let one : PeerId → Row = λ r. reading (open_at r) (row r) in
        let two : PeerId → Row = λ r. reading (open_at r) (row' r) in
        let c : ℕ = m.names.shift in
        let both : (r : PeerId) → m.known r → Moves m (one r) (two (m.names.peer r)) = one_send row row' none none' k in
        let ours = skips_own one x p.own (First m) m.known (λ p' h r e. none_first row none x p.own a.setup.apart p' h r e)
        (λ r known p' h. first_grown x (one r) (two (m.names.peer r)) (both r known) p' h) p.peers (list_known a x Others) p (record { other = q; alike = a })
        in
        let theirs = skips_own two (x + c) q.own (Second m) (Renamed m) (λ q' h r e. none_second row' none' (x + c) p.own q.own a.setup.own a.setup.apart q' h r
        e)
        (λ r named q' h. second_grown x two one both r named q' h) q.peers (subst (λ l. All (Renamed m) l) (sym a.setup.others_are)
        (all_renamed (others p.own p.peers) (list_known a x Others))) q (record { other = p; alike = a }) in
        let each = (each_moves one two both (others p.own p.peers) (list_known a x Others)).at x p q a in
        record {
          same = theirs ∙ ap (λ l. for_each two l (x + c) q) a.setup.others_are ∙ each.same ∙ ap (map (renamed_act m.names)) (sym ours);
          known = subst (λ l. All (Knows m) l) (sym ours) each.known;
        };
  }

  puts_moves : (act : Act) → is_plain act ≡ true → Knows m act → Moves m (puts act) (puts (renamed_act m.names act))
  puts_moves act plain known = record { at = λ x p q a. leaf_at a x (Puts act plain known) }

  each_standing : (mean : ℤ) → ((p : PeerId) → m.known p → (best : Option Estimate) →
      Moves m (corrects_by mean p best) (corrects_by mean (m.names.peer p) best)) → (round : List Standing) → All (λ (s : Standing). m.known s.peer) round →
      Moves m (for_each (corrects_peer mean) round) (for_each (corrects_peer mean) (map (renamed_standing m.names) round))
  unfolding for_each corrects_peer
  each_standing mean k [] known = nothing_moves
  each_standing mean k (s ∷ round) known = then_moves _ _ _ _ (k s.peer (All-head (λ (s : Standing). m.known s.peer) s round known) s.best)
      (each_standing mean k round (All-tail (λ (s : Standing). m.known s.peer) s round known))

  -- a round closes
  closing : (own : Bool) → ((mean : ℤ) → Moves m (moves own mean) (moves own mean)) → ((mean : ℤ) (p : PeerId) → m.known p → (best : Option Estimate) →
      Moves m (corrects_by mean p best) (corrects_by mean (m.names.peer p) best)) →
      (round : List Standing) → All (λ (s : Standing). m.known s.peer) round → (g : Group) →
      Moves m (closes_with own g round) (closes_with own g (map (renamed_standing m.names) round))
  unfolding closes_with abandons
  closing own moved corrected round known g =
      let mean : ℤ = mean_by own g in
      either_moves _ _ _ _ _ _ (λ x p q a. can_adjust_alike a mean x)
      (λ x p q a e. then_moves _ _ _ _ (puts_moves (close_act own g) refl tt) (then_moves _ _ _ _ (moved mean)
      (each_standing mean (corrected mean) round known)))
      (λ x p q a e. puts_moves Abandon refl tt)

  closes_move : (own : Bool) → ((mean : ℤ) → Moves m (moves own mean) (moves own mean)) → ((mean : ℤ) (p : PeerId) → m.known p → (best : Option Estimate) →
      Moves m (corrects_by mean p best) (corrects_by mean (m.names.peer p) best)) → Moves m (reading round_at (closes own)) (reading round_at (closes own))
  unfolding closes
  closes_move own moved corrected = reading_moves (map (renamed_standing m.names)) round_at round_at (closes own) (closes own) (λ x p q a. round_at_alike a x)
      (λ x p q a.
      then_moves _ _ _ _ (puts_moves (Ring CloseAlarm) refl tt)
      (subst (λ e. Moves m (closes_with own (group_of SPAN (estimates (round_at x p))) (round_at x p))
      (closes_with own (group_of SPAN e) (map (renamed_standing m.names) (round_at x p)))) (sym (same_estimates m.names (round_at x p)))
      (closing own moved corrected (round_at x p) (round_at_known a x) (group_of SPAN (estimates (round_at x p))))))

  pub moves_built : {sorts : List Sort} {k c : ℕ} {r r' : Row} → Built m nothing_owed sorts k c r r' → Moves m r r'
  moves_built Empty = nothing_moves
  moves_built (At leaf e) = record { at = λ x p q a. leaf_at a x leaf }
  moves_built (Then d e) = then_moves _ _ _ _ (moves_built d) (moves_built e)
  moves_built (Either test d e) = either_moves _ _ _ _ _ _ (λ x p q a. test_same a x test) (λ x p q a holds. moves_built (d (test_yes test x p q a holds)))
      (λ x p q a fails. moves_built (e (test_no test x p q a fails)))
  moves_built (If true b' same d e) = rw same (moves_built (d refl))
  moves_built (If false b' same d e) = rw same (moves_built e)
  moves_built (Reading {f = f} rows fact d) =
      reading_moves f _ _ _ _ (λ x p q a. fact_same a x fact) (λ x p q a. moves_built (d _ (fact_told a x fact)))
  moves_built (ReadingValue {f = f} rows fact d) =
      reading_moves f _ _ _ _ (λ x p q a. value_same a x fact) (λ x p q a. moves_built (d _ tt))
  moves_built (Each row list d) = reading_moves (map m.names.peer) _ _ _ _ (λ x p q a. list_same a x list)
      (λ x p q a. each_moves _ _ (λ p known. moves_built (d p known)) _ (list_known a x list))
  moves_built (EachSend row row' none none' d) = sends_move row row' none none' (λ p known s. moves_built (d p known s tt))
  moves_built (Closes own e moved corrected) = closes_move own (λ mean. moves_built (moved mean))
      (λ mean p known best. moves_built (corrected mean p known best (nothing_measured mean best)))
  moves_built (More d le) = moves_built d
  moves_built (Wider e d) = moves_built d
