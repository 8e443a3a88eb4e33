-- Tests of alarms, roles, the hold and peers say the same at alike pasts.
use Rattle.std.proofs.Common.{ap, ap₂, ◌∙◌, sym, ◌≡◌, ℕ, ◌+◌, ◌*◌, ◌==◌, nat_lt, Bool, not, ◌&&◌, ◌||◌, length, Option, None, Some, is_some, refl, true, false}
use Rattle.std.proofs.Common.{◌%◌, nat_le, ℤ, ◌+ℤ◌, List, [], ◌∷◌, map}
use Rattle.std.proofs.{lemmas.List.length-map, lemmas.Bool.and_right}
use Rattle.tsp_rules.specs.Renames.{Renaming, Naming, renamed_place, renamed_role, later_send, later_sends}
use Rattle.tsp_rules.specs.SendRows.{answers_election, answers_other, is_quit, may_correct, may_set}
use Rattle.tsp_rules.specs.{DateRows.answers_date, DateRows.are_settled, DateRows.is_last, GateRows.is_last_probe}
use Rattle.tsp_rules.specs.{SlaveRows.is_by, SlaveRows.is_next, ClockRows.can_adjust, CommonRows.is_idle}
use Rattle.tsp_rules.specs.Values.{Alarm, Probe, CloseAlarm, ResolveAlarm, PeerId, Place, Peer, Stranger, Role, Follow, Window, GAP, REUSE, DATEHOLD, LAST}
use Rattle.tsp_rules.specs.Values.{TRIES, RETRY}
use Rattle.tsp_rules.specs.Guards.{is_armed, is_due, is_follow, is_heard, is_master, is_met, is_over, is_own, is_starting_role, may_stand_at, is_clock_value}
use Rattle.tsp_rules.specs.Guards.{is_in_range, table_at}
use Rattle.tsp_rules.proofs.RowCodes.{Test, Table, Due, InTime, Armed, MayStand, MayBack, MayJoin, MayCorrect, MayBeAsked, MayPassOn, MayDate, Follows, HasWon}
use Rattle.tsp_rules.proofs.RowCodes.{HasMore, HasElection, HasOther, HasDate, HasQuit, IsAwake, IsGoing, IsMaster, IsSlave, IsNewRival, IsFree, IsHeard, IsOwn}
use Rattle.tsp_rules.proofs.RowCodes.{IsLeft, IsSendDue, IsSpent, IsRepeated, IsDated, TakesAmount, TakesValue}
use Rattle.tsp_base.specs.Words.{Past, deadline, armed, backers, held, is_correction, may_stand, role, plain, correct_tick, Correcting, Dating, is_past}
use Rattle.tsp_base.specs.Words.{last_asked, last_date, last_post, last_taken, open_send, Sending}
use Rattle.tsp_alike.proofs.{ListsAlike.is_among_alike, ListsAlike.list_same, Alike.AlikePast}
use Rattle.tsp_alike.proofs.RoundsAlike.{correct_tick_alike, target_alike, ticket_alike, plain_alike, is_going_alike, some_later}
use Rattle.tsp_alike.proofs.Renamed.{later_date, renamed_correcting, met_later, over_later, le_after, lt_after, lt_until, past_later}
use Rattle.tsp_alike.proofs.PortAlike.{Facts, deadline_alike, facts_alike, in_table_alike, is_rival_alike, may_back_alike, may_stand_alike, role_alike}
use Rattle.tsp_alike.proofs.PortAlike.{window_stands, is_acknowledged_alike, last_date_alike, last_number_alike, last_post_alike, open_send_alike}

-- tests of renamed values
module _ (n : Renaming) where
  pub follow_renamed : (r : Role) → is_follow (renamed_role n r) ≡ is_follow r
  follow_renamed (Follow p) = refl
  follow_renamed _ = refl

  pub master_renamed : (r : Role) → is_master (renamed_role n r) ≡ is_master r
  master_renamed (Follow p) = refl
  master_renamed _ = refl

  pub starting_renamed : (r : Role) → is_starting_role (renamed_role n r) ≡ is_starting_role r
  starting_renamed (Follow p) = refl
  starting_renamed _ = refl

  idle_renamed : (r : Role) → is_idle (renamed_role n r) ≡ is_idle r
  idle_renamed (Follow p) = refl
  idle_renamed _ = refl

-- a deadline that is over or met is there
some_over : (o : Option ℕ) (x : ℕ) → is_over o x ≡ true → is_some o ≡ true
some_over None x e = e
some_over (Some at) x e = refl

-- what tests read, and those that others are made of
module _ {m : Naming} {p q : Past} (a : AlikePast m p q) where
  is_armed_alike : (alarm : Alarm) (x : ℕ) → is_armed alarm (x + m.names.shift) q ≡ is_armed alarm x p
  is_armed_alike alarm x = ap is_some (deadline_alike a.seen alarm) ∙ some_later m.names (deadline (armed p.seen) alarm)

  is_starting_alike : is_starting_role (role q.seen) ≡ is_starting_role (role p.seen)
  is_starting_alike = ap is_starting_role (role_alike a.seen) ∙ starting_renamed m.names (role p.seen)

  follows_alike : is_follow (role q.seen) ≡ is_follow (role p.seen)
  follows_alike = ap is_follow (role_alike a.seen) ∙ follow_renamed m.names (role p.seen)

  may_stand_at_alike : (x : ℕ) → may_stand_at (x + m.names.shift) q ≡ may_stand_at x p
  may_stand_at_alike x =
      ap₂ ◌&&◌ a.may (ap (λ o. may_stand (held q.seen) (x + m.names.shift) o) a.setup.own ∙ may_stand_alike a.seen x p.own)

  is_own_alike : (from : Place) (x : ℕ) → is_own (renamed_place m.names from) (x + m.names.shift) q ≡ is_own from x p
  is_own_alike (Peer r) x = ap (λ o. (m.names.peer r).0 == o.0) a.setup.own ∙ m.same r p.own
  is_own_alike Stranger x = refl

  -- only of another number than the own one, which may be among the peers of one port and not of the other
  is_heard_alike : (r : PeerId) (x : ℕ) → is_own (Peer r) x p ≡ false → is_heard (m.names.peer r) (x + m.names.shift) q ≡ is_heard r x p
  is_heard_alike r x off = ap₂ ◌&&◌ (is_among_alike a.setup r off) (ap not is_starting_alike)

  -- the own number isn't heard as another peer, whether or not it is among the peers
  pub hears_alike : (r : PeerId) (x : ℕ) →
      (is_heard (m.names.peer r) (x + m.names.shift) q && not (is_own (Peer (m.names.peer r)) (x + m.names.shift) q)) ≡
      (is_heard r x p && not (is_own (Peer r) x p))
  hears_alike r x = ap (λ b. is_heard (m.names.peer r) (x + m.names.shift) q && not b) (is_own_alike (Peer r) x) ∙
      by_case (is_own (Peer r) x p) (is_heard_alike r x) where
        by_case : (b : Bool) → (b ≡ false → is_heard (m.names.peer r) (x + m.names.shift) q ≡ is_heard r x p) →
            (is_heard (m.names.peer r) (x + m.names.shift) q && not b) ≡ (is_heard r x p && not b)
        by_case true same = and_right (is_heard (m.names.peer r) (x + m.names.shift) q) false refl ∙ sym (and_right (is_heard r x p) false refl)
        by_case false same = ap (λ b. b && true) (same refl)

  -- whether the last probe of a round has rung
  pub is_last_probe_alike : is_last_probe q ≡ is_last_probe p
  is_last_probe_alike = ap₂ ◌&&◌ (is_armed_alike CloseAlarm 0) (ap not (is_armed_alike Probe 0))

  -- only a port that may stand for election has an alarm for the end of the window, or stands
  pub due_stands : (x : ℕ) → is_due Window x p ≡ true → m.stands
  due_stands x e = window_stands a.seen (some_over (deadline (armed p.seen) Window) x e)

-- tests of renamed values
module _ (n : Renaming) where
  last_later : (number x : ℕ) (o : Option Dating) → is_last number (x + n.shift) (later_date n o) ≡ is_last number x o
  last_later number x None = refl
  last_later number x (Some d) = ap (λ b. (d.number == number) && b) (lt_until x d.at DATEHOLD n.shift)

-- what was taken from a peer, where peers are told apart
by_renamed : (m : Naming) (p : PeerId) (number : ℕ) (o : Option Correcting) → is_by (m.names.peer p) number (renamed_correcting m.names o) ≡ is_by p number o
by_renamed m p number None = refl
by_renamed m p number (Some c) = ap (λ b. b && (c.number == number)) (m.same c.from p)

-- sends, corrections and dates
module _ {m : Naming} {p q : Past} (a : AlikePast m p q) where
  -- a test of the open send to a peer that reads neither its peer nor its ticks
  of_send : {A : Type 0} (test : Option Sending → A) → ((s : Sending) → test (Some (later_send m.names s)) ≡ test (Some s)) → (r : PeerId) →
      test (open_send (m.names.peer r) q.seen) ≡ test (open_send r p.seen)
  of_send {A} test same r = ap test (open_send_alike r a.seen) ∙ by_case (open_send r p.seen) where
    by_case : (o : Option Sending) → test (later_sends m.names o) ≡ test o
    by_case None = refl
    by_case (Some s) = same s

  long_posted : (r : PeerId) (x : ℕ) →
      is_past (last_post (m.names.peer r) q.seen) REUSE (x + m.names.shift) ≡ is_past (last_post r p.seen) REUSE x
  long_posted r x =
      ap (λ o. is_past o REUSE (x + m.names.shift)) (last_post_alike r a.seen) ∙ past_later m.names (last_post r p.seen) REUSE x

  may_correct_alike : (r : PeerId) (number x : ℕ) → may_correct (m.names.peer r) number (x + m.names.shift) q ≡ may_correct r number x p
  may_correct_alike r number x =
      ap₂ ◌||◌ (long_posted r x) (ap₂ ◌&&◌ (is_acknowledged_alike r a.seen) (ap (λ k. number == (k + 1) % 32768) (last_number_alike r a.seen)))

  pub is_in_range_alike : (x : ℕ) → is_in_range (x + m.names.shift) q ≡ is_in_range x p
  is_in_range_alike x = ap is_clock_value (target_alike (plain_alike a.seen) x)

  pub may_set_alike : (r : PeerId) (number x : ℕ) → may_set (m.names.peer r) number (x + m.names.shift) q ≡ may_set r number x p
  may_set_alike r number x = ap₂ ◌&&◌ (may_correct_alike r number x) (is_in_range_alike x)

  -- corrections that a port takes
  pub can_adjust_alike : (amount : ℤ) (x : ℕ) → can_adjust amount (x + m.names.shift) q ≡ can_adjust amount x p
  can_adjust_alike amount x = ap (λ t. is_clock_value (t +ℤ amount)) (target_alike (plain_alike a.seen) x)

  long_since : (x : ℕ) → is_past (correct_tick (plain q.seen)) GAP (x + m.names.shift) ≡ is_past (correct_tick (plain p.seen)) GAP x
  long_since x = ap (λ o. is_past o GAP (x + m.names.shift)) (correct_tick_alike m.names refl (plain_alike a.seen)) ∙
      past_later m.names (correct_tick (plain p.seen)) GAP x

  is_next_alike : (number x : ℕ) → is_next number (x + m.names.shift) q ≡ is_next number x p
  is_next_alike number x = ap₂ ◌&&◌ (ap (λ k. number == k) (ticket_alike (plain_alike a.seen))) (long_since x)

  -- dates
  are_settled_alike : (rs : List PeerId) (x : ℕ) → are_settled (map m.names.peer rs) (x + m.names.shift) q ≡ are_settled rs x p
  are_settled_alike [] x = refl
  are_settled_alike (r ∷ rs) x = ap₂ ◌&&◌ (ap₂ ◌||◌ (long_posted r x) (is_acknowledged_alike r a.seen)) (are_settled_alike rs x)

-- each test that a row makes
module _ {m : Naming} {p q : Past} (a : AlikePast m p q) (x : ℕ) where
  abbrev y : ℕ
  y = x + m.names.shift

  pub test_same : {t t' : ℕ → Past → Bool} → Test m t t' → t' (x + m.names.shift) q ≡ t x p
  test_same (Due alarm) = ap (λ o. is_over o y) (deadline_alike a.seen alarm) ∙ over_later m.names (deadline (armed p.seen) alarm) x
  test_same (InTime alarm) = ap (λ o. is_met o y) (deadline_alike a.seen alarm) ∙ met_later m.names (deadline (armed p.seen) alarm) x
  test_same (Armed alarm) = is_armed_alike a alarm x
  test_same MayStand = may_stand_at_alike a x
  test_same (MayBack r) = may_back_alike a.seen x r
  test_same (MayJoin r number) = ap (λ b. nat_lt number 32768 && not b) (in_table_alike r a.seen)
  test_same (MayCorrect r number) = may_correct_alike a r number x
  test_same MayBeAsked = ap₂ ◌&&◌ (ap is_idle (role_alike a.seen) ∙ idle_renamed m.names (role p.seen)) (may_stand_at_alike a x)
  test_same (MayPassOn r) =
      let asked = ap (λ o. is_past o REUSE y) (ap (λ (f : Facts). f.last_asked) (facts_alike a.seen)) ∙ past_later m.names (last_asked p.seen) REUSE x in
      ap₂ ◌&&◌ asked (of_send a (λ o. not (is_some o)) (λ s. refl) r)
  test_same (MayDate time) =
      let settled = ap (λ rs. are_settled rs y q) (list_same a x Table) ∙ are_settled_alike a (table_at x p) x in
      ap₂ ◌&&◌ (long_since a x) (ap (λ b. is_clock_value time && b) settled)
  test_same Follows = follows_alike a
  -- only a port that may stand for election asks whether it has won
  test_same (HasWon stands) =
      let backing = ap length (ap (λ (f : Facts). f.backers) (facts_alike a.seen)) ∙ length-map (backers p.seen) m.names.peer in
      ap₂ ◌||◌ (ap not (a.strict stands)) (ap₂ (λ count backers. nat_lt count (2 * backers + 2)) a.setup.count backing)
  test_same HasMore = ap (λ k. nat_lt k 3) (ap (λ (f : Facts). f.probes) (facts_alike a.seen))
  test_same (HasElection r number) = of_send a (answers_election number) (λ s. refl) r
  test_same (HasOther r number) = of_send a (answers_other number) (λ s. refl) r
  test_same (HasDate r number) = of_send a (answers_date number) (λ s. refl) r
  test_same (HasQuit r) = of_send a is_quit (λ s. refl) r
  test_same IsAwake = ap not (is_starting_alike a)
  test_same IsGoing = is_going_alike a.seen
  test_same IsMaster = ap is_master (role_alike a.seen) ∙ master_renamed m.names (role p.seen)
  test_same (IsSlave r) = in_table_alike r a.seen
  test_same (IsNewRival r) = ap₂ ◌&&◌ (is_armed_alike a ResolveAlarm x) (ap not (is_rival_alike r a.seen))
  test_same (IsFree r) = of_send a (λ o. not (is_some o)) (λ s. refl) r
  test_same (IsHeard r known) = is_heard_alike a r x (a.setup.apart r known)
  test_same (IsOwn from comes) = is_own_alike a from x
  test_same (IsLeft steer kind) = ap (λ b. not steer && (is_correction kind && b)) (follows_alike a)
  test_same (IsSendDue s) = le_after s.began (s.posts * RETRY) x m.names.shift
  test_same (IsSpent s) = ap (λ b. b || nat_le TRIES s.posts) (lt_after s.began LAST x m.names.shift)
  test_same (IsRepeated r number) = ap (is_by (m.names.peer r) number) (ap (λ (f : Facts). f.last_taken) (facts_alike a.seen)) ∙ by_renamed m r number
      (last_taken p.seen)
  test_same (IsDated r number) = ap (is_last number y) (last_date_alike r a.seen) ∙ last_later m.names number x (last_date r p.seen)
  test_same (TakesAmount number amount) = ap₂ ◌&&◌ (is_next_alike a number x) (can_adjust_alike a amount x)
  test_same (TakesValue number value) = ap (λ b. b && is_clock_value value) (is_next_alike a number x)
