-- Each row of a port keeps what its role asks for armed.
use Rattle.std.proofs.Common.{sym, pos, ap, subst, true≢false, ◌∙◌, ◌≡◌, ◌≢◌, ◌+◌, ℕ, ◌==◌, ◌||◌, ◌&&◌, ◌⊎◌, ◌*◌, ◌≤◌, not, nat_le, nat_lt, eqb-true, le-leb}
use Rattle.std.proofs.Common.{length}
use Rattle.std.proofs.Common.{inl, inr, ℤ, Bool, true, false, if◌then◌else◌, List, [], ◌∷◌, Option, None, Some, refl}
use Rattle.std.proofs.lemmas.Bool.{and_parts, not-true, or_right}
use Rattle.tsp_rules.specs.Values.{Become, Ring, Late, Back, Quit, Acked, Took, Abandon, Alarm, Quiet, Search, Elect, Window, Probe, CloseAlarm, ResolveAlarm}
use Rattle.tsp_rules.specs.Values.{Round, PeerId, Place, Peer, Stranger, Role, Starting, Loose, Follow, Candidate, Master, Kind, Accept, Ack, AdjTime, Conflict}
use Rattle.tsp_rules.specs.Values.{Date, DateAck, DateReq, Election, LoopKind, MasterAck, MasterReq, MasterUp, Msite, MsiteReq, QuitKind, Refuse, ResolveKind}
use Rattle.tsp_rules.specs.Values.{SetDate, SetDateReq, SetTime, SlaveUp, Test, TraceOff, TraceOn, WINDOW, ROUND, PROBE, CLOSE, SPAN, Message, Stamp, Taken}
use Rattle.tsp_rules.specs.Values.{Good, Bad, Request, Reply, Arm, HOLD, ELECT_MIN}
use Rattle.tsp_base.specs.Words.{Seen}
use Rattle.tsp_base.specs.Words.{Acts, Deed, Estimate, Past, backers, held, may_back_after, MessageValue, Row, Leads, arms, puts, nothing, posts, posts_back}
use Rattle.tsp_base.specs.Words.{posts_to_others, for_each, grown, reading, either_by, role, time_in, ◌followed_by◌}
use Rattle.tsp_base.proofs.LeadsLemmas.{Leads_then, Leads_either, Leads_reading, Leads_nothing, Leads_puts, Leads_each, Leads_from, Leads_to}
use Rattle.tsp_group.specs.{Groups.group_of, declared.group.Group.Group}
use Rattle.tsp_rules.specs.CandidateRows.{candidate_takes, candidate_takes_kind, has_won, lead_row, refused_by, yields, window_rings}
use Rattle.tsp_rules.specs.CommonRows.{arms_elect, backs_own, candidature_row, follow_row, follows_unless, is_awake, may_be_asked, own_at, quits, searches}
use Rattle.tsp_rules.specs.CommonRows.{tells_ticket, tests}
use Rattle.tsp_rules.specs.SlaveRows.{quiet_rings, rings_or_late, search_rings, loosens, elect_rings, reports_conflict, masterup_in, masterack_in, election_of}
use Rattle.tsp_rules.specs.SlaveRows.{acks_repeat, confirms, adjtime_of, settime_of, from_master, slave_takes, slave_takes_kind, takes_amount, takes_value}
use Rattle.tsp_rules.specs.{MasterRows.master_takes, MasterRows.master_takes_kind, ResolveRows.resolves, ResolveRows.resolve_rings, ResolveRows.quits_rivals}
use Rattle.tsp_rules.specs.{ClockRows.adjusts, ClockRows.can_adjust, ClockRows.sets, DateRows.date_request_of, DateRows.date_acked}
use Rattle.tsp_rules.specs.RoundRows.{Standing, round_rings, begins_or_waits, round_begins, asks, asks_slaves, probe_rings, asks_measured, arms_next, abandons}
use Rattle.tsp_rules.specs.RoundRows.{has_more, measured_at, close_act, close_rings, closes, closes_with, corrects_by, corrects_peer, estimates, mean_by, moves}
use Rattle.tsp_rules.specs.RoundRows.{round_at}
use Rattle.tsp_rules.specs.Guards.{role_at, is_due, is_follow, is_heard, is_in_time, is_armed, is_own, may_back_at, may_stand_at, follows_at, table_at}
use Rattle.tsp_rules.specs.Guards.{ticket_at, rivals_at}
use Rattle.tsp_rules.specs.SendRows.{acknowledges, begins, begins_to_others, due_sends, has_election, others_at}
use Rattle.tsp_rules.specs.Answers.{alarm_rings, says_in, peer_says, peer_replies, from_peer, handles_kind, handles, is_left, rings, takes}
use Rattle.tsp_rules.proofs.Emits.{Sort, Posting, Numbering, Acking, Moving, Asking, Tracing, Sampling, Counting, Correcting, Tabling, Rivalling, Emits, code}
use Rattle.tsp_rules.proofs.Emits.{is_in, is_part, sort_of, sort_of_kind, Emits_posts, Emits_posts_back, Emits_posts_to_others, Emits_adjusts, Emits_sets}
use Rattle.tsp_rules.proofs.{EmitsBuilt.emits_built, EmitsBuilt.nothing_owed, Unchanged.place_unchanged, Unchanged.unchanged, Built.At, Built.Built}
use Rattle.tsp_rules.proofs.{Built.Corrects, RowCodes.Asks}
use Rattle.tsp_rules.proofs.BuiltShared.{built_acknowledges, built_begins, built_names_master, built_says_master, built_traces, built_replies}
use Rattle.tsp_rules.proofs.BuiltAnswers.{date_sorts, built_date_of, built_date_request_of, built_date_acked, built_peer_replies}
use Rattle.tsp_rules.proofs.{BuiltRoles.built_accepted_by, BuiltRoles.built_joins, BuiltRoles.built_sends_away, BuiltRoles.built_finds_rival}
use Rattle.tsp_rules.proofs.{BuiltSends.built_due_sends, BuiltSends.send_sorts}
use Rattle.tsp_rules.proofs.BuiltRounds.{correct_sorts, built_corrects_by}
use Rattle.tsp_progress.specs.AlarmsFit.{AlarmsFit, Arms, IsFree, NextTo, asks_next}
use Rattle.tsp_progress.proofs.Waking.{Arming, Awake, Backed, Became, Closed, Due, Nearly, Off, ProbeArmed, Probing, Rang, Ready, RoundArmed, Unled, arming}
use Rattle.tsp_progress.proofs.Waking.{arming_by, arms_any_elect, arms_probe, arms_resolve, arms_search, backs_another, backs_itself, becomes, begin_round}
use Rattle.tsp_progress.proofs.Waking.{candidate_windows, close_round, closes_by, closes_still, corrects_by_mean, far, far_by, far_row, follow_elects}
use Rattle.tsp_progress.proofs.Waking.{idle_after, is_lasting, keeps, late_off, late_round, lead_after, loose_elects, loose_searches, manner, master_rounds}
use Rattle.tsp_progress.proofs.Waking.{near_sorts, probe_round, quiet_off, ready, ready_by, rings_off, settled_by, wait_round, window_late, window_off}

-- whether none of these sorts is a change of the role or an act on an alarm
abbrev pub no_near : List Sort → Bool
no_near [] = true
no_near (s ∷ rest) = not (is_in s near_sorts) && no_near rest

-- what is said of a sort is said of its code
near_code : (s t : Sort) → (code s == code t) ≡ true → is_in t near_sorts ≡ false → is_in s near_sorts ≡ false
near_code s t e n = subst (λ c. ((c == 0) || ((c == 6) || ((c == 7) || ((c == 8) || ((c == 9) || ((c == 11) || ((c == 12) || ((c == 18) || false)))))))) ≡
    false) (sym (eqb-true (code s) (code t) e)) n

pub out_of : (sorts : List Sort) → no_near sorts ≡ true → (s : Sort) → is_in s sorts ≡ true → is_in s near_sorts ≡ false
out_of [] apart s e = absurd (true≢false (sym e))
out_of (t ∷ rest) apart s e =
    let both = and_parts (not (is_in t near_sorts)) (no_near rest) apart in
    by_case (code s == code t) refl e both.0 (λ more. out_of rest both.1 s more)
  where
    by_case : (b : Bool) → (code s == code t) ≡ b → (b || is_in s rest) ≡ true → not (is_in t near_sorts) ≡ true →
        (is_in s rest ≡ true → is_in s near_sorts ≡ false) → is_in s near_sorts ≡ false
    by_case true same e other k = near_code s t same (not-true (is_in t near_sorts) other)
    by_case false differs e other k = k e

-- a row of other sorts
pub calm : {sorts : List Sort} {k c : ℕ} {r r' : Row} → is_part sorts sorts ≡ true → no_near sorts ≡ true → Built unchanged nothing_owed sorts k c r r' →
    Leads Awake r Awake
calm {sorts} {r = r} own apart d = far_row sorts r (λ a e. out_of sorts apart (sort_of a) e) (emits_built own d)

pub emit : (sorts : List Sort) (r : Row) → no_near sorts ≡ true → Emits sorts r → Leads Awake r Awake
emit sorts r apart d = far_row sorts r (λ a e. out_of sorts apart (sort_of a) e) d

to_others_far : (kind : Kind) → is_in (sort_of_kind kind) (Posting ∷ Numbering ∷ []) ≡ true → Leads Awake (posts_to_others kind 0) Awake
to_others_far kind e = emit (Posting ∷ Numbering ∷ []) (posts_to_others kind 0) refl (Emits_posts_to_others kind 0 e)

pub Leads_if : {P Q : ℕ → Past → Type 0} (b : Bool) (r s : Row) → Leads P r Q → Leads P s Q → Leads P (if b then r else s) Q
Leads_if true r s p q = p
Leads_if false r s p q = q

post_far : (p : PeerId) (kind : Kind) (number : ℕ) → is_in (sort_of_kind kind) (Posting ∷ Numbering ∷ []) ≡ true → Leads Awake (posts p kind number) Awake
post_far p kind number e = emit (Posting ∷ Numbering ∷ []) (posts p kind number) refl (Emits_posts p kind number e)

tells_far : (p : PeerId) → Leads Awake (tells_ticket p) Awake
unfolding tells_ticket
tells_far p = Leads_reading ticket_at (posts p SlaveUp) (λ n. Leads_from (λ x past h. h.0) (post_far p SlaveUp n refl))

again_far : (p : PeerId) → Leads Awake (arms_elect followed_by tells_ticket p) Awake
again_far p = Leads_then {Q = Awake} arms_elect (tells_ticket p) (Leads_from (arming Elect) arms_any_elect) (tells_far p)

-- a row that begins with a change of the role
pub timely : {r : Role} {row : Row} {Q : ℕ → Past → Type 0} → Leads (Ready r) row Q → Leads Awake row Q
timely {r} d = Leads_from (ready r) d

pub follow_far : (p : PeerId) → Leads (Ready (Follow p)) (follow_row p) Awake
unfolding follow_row
follow_far p = Leads_then {Q = Became (Follow p)} (puts (Become (Follow p))) (arms_elect followed_by tells_ticket p) (becomes (Follow p))
    (Leads_then {Q = Awake} arms_elect (tells_ticket p) (follow_elects p) (tells_far p))

-- a search, where nothing or little is armed
searches_far : {P : ℕ → Past → Type 0} → Leads P (arms Search WINDOW) Awake → Leads P searches Awake
unfolding searches
searches_far d = Leads_then {Q = Awake} (arms Search WINDOW) (posts_to_others MasterReq 0) d (to_others_far MasterReq refl)

unless_far : (p : PeerId) (r : Role) → Leads Awake (follows_unless p r) Awake
unfolding follows_unless
unless_far p (Follow q) = Leads_nothing
unless_far p _ = timely (follow_far p)

quits_far : (p : PeerId) (number : ℕ) → Leads Awake (quits p number) Awake
unfolding quits
quits_far p number = Leads_then {Q = Awake} (puts (Quit p)) (posts p Ack number followed_by reading role_at (follows_unless p)) (far (Quit p) refl)
    (Leads_then {Q = Awake} (posts p Ack number) (reading role_at (follows_unless p)) (post_far p Ack number refl)
    (Leads_reading role_at (follows_unless p) (λ r. Leads_from (λ x past h. h.0) (unless_far p r))))

conflict_far : (q : PeerId) → Leads Awake (reports_conflict q) Awake
unfolding reports_conflict
conflict_far q = Leads_either _ (begins Conflict q) nothing (Leads_from (λ x past h. h.0) (calm {sorts = Numbering ∷
    []} refl refl (built_begins Conflict q tt refl refl))) (Leads_from (λ x past h. h.0) Leads_nothing)

masterup_far : (p : PeerId) (r : Role) → Leads Awake (masterup_in p r) Awake
unfolding masterup_in
masterup_far p Loose = timely (follow_far p)
masterup_far p (Follow q) = Leads_if (q.0 == p.0) _ _ (again_far p) (conflict_far q)
masterup_far p _ = Leads_nothing

masterack_far : (p : PeerId) (r : Role) → Leads Awake (masterack_in p r) Awake
unfolding masterack_in
masterack_far p Loose = Leads_either (is_armed Search) (follow_row p) nothing (Leads_from (λ x past h. ready (Follow p) x past h.0) (follow_far p))
    (Leads_from (λ x past h. h.0) Leads_nothing)
masterack_far p (Follow q) = Leads_if (q.0 == p.0) _ _ Leads_nothing (conflict_far q)
masterack_far p _ = Leads_nothing

election_far : (p : PeerId) (number : ℕ) → Leads Awake (election_of p number) Awake
unfolding election_of
election_far p number = Leads_either (may_back_at p) (puts (Back p) followed_by (arms_elect followed_by posts p Accept number)) (posts p Refuse number)
    (Leads_from (λ x past h. h.0) (Leads_then {Q = Arming Elect true true} (puts (Back p)) (arms_elect followed_by posts p Accept number) (backs_another p)
    (Leads_then {Q = Awake} arms_elect (posts p Accept number) arms_any_elect (post_far p Accept number refl))))
    (Leads_from (λ x past h. h.0) (post_far p Refuse number refl))

confirms_far : (p : PeerId) (number : ℕ) → Leads Awake (confirms p number) Awake
unfolding confirms
confirms_far p number = Leads_then {Q = Awake} arms_elect (posts p Ack number) (Leads_from (arming Elect) arms_any_elect) (post_far p Ack number refl)

repeat_far : (p : PeerId) (number : ℕ) → Leads Awake (acks_repeat p number) Awake
unfolding acks_repeat
repeat_far p number = Leads_either _ (posts p Ack number) nothing (Leads_from (λ x past h. h.0) (post_far p Ack number refl))
    (Leads_from (λ x past h. h.0) Leads_nothing)

adjtime_far : (p : PeerId) (number : ℕ) (amount : ℤ) → Leads Awake (adjtime_of p number amount) Awake
unfolding adjtime_of
adjtime_far p number amount = Leads_either (takes_amount number amount) (adjusts amount followed_by confirms p number) (acks_repeat p number)
    (Leads_from (λ x past h. h.0) (Leads_then {Q = Awake} (adjusts amount) (confirms p number)
    (emit (Moving ∷ []) (adjusts amount) refl (Emits_adjusts amount refl)) (confirms_far p number)))
    (Leads_from (λ x past h. h.0) (repeat_far p number))

settime_far : (p : PeerId) (number : ℕ) (value : ℤ) → Leads Awake (settime_of p number value) Awake
unfolding settime_of
settime_far p number value = Leads_either (takes_value number value) (sets value followed_by confirms p number) (acks_repeat p number)
    (Leads_from (λ x past h. h.0) (Leads_then {Q = Awake} (sets value) (confirms p number) (emit (Moving ∷ []) (sets value) refl (Emits_sets value refl))
    (confirms_far p number)))
    (Leads_from (λ x past h. h.0) (repeat_far p number))

from_far : (p : PeerId) (row : Row) (r : Role) → Leads Awake row Awake → Leads Awake (from_master p row r) Awake
unfolding from_master
from_far p row (Follow q) d = Leads_if (q.0 == p.0) row nothing d Leads_nothing
from_far p row _ d = Leads_nothing

acks_far : (p : PeerId) (number : ℕ) → Leads Awake (acknowledges p number) Awake
acks_far p number = calm {sorts = Acking ∷ []} refl refl (built_acknowledges p number tt)

-- what a port that is Loose or follows does with a message
pub slave_far : (p : PeerId) (m : MessageValue) (k : Kind) → Leads Awake (slave_takes_kind p m k) Awake
unfolding slave_takes_kind
slave_far p m MasterUp = Leads_reading role_at (masterup_in p) (λ r. Leads_from (λ x past h. h.0) (masterup_far p r))
slave_far p m MasterAck = Leads_reading role_at (masterack_in p) (λ r. Leads_from (λ x past h. h.0) (masterack_far p r))
slave_far p m Election = election_far p m.number
slave_far p m AdjTime = Leads_reading role_at _ (λ r. Leads_from (λ x past h. h.0) (from_far p (adjtime_of p m.number (time_in m.body)) r
    (adjtime_far p m.number (time_in m.body))))
slave_far p m SetTime = Leads_reading role_at _ (λ r. Leads_from (λ x past h. h.0) (from_far p (settime_of p m.number (time_in m.body)) r
    (settime_far p m.number (time_in m.body))))
slave_far p m QuitKind = quits_far p m.number
slave_far p m Ack = acks_far p m.number
slave_far p m _ = Leads_nothing

pub yields_far : Leads (Ready Loose) yields Awake
unfolding yields
yields_far = Leads_then {Q = Became Loose} (puts (Become Loose)) arms_elect (becomes Loose) loose_elects

refused_far : (p : PeerId) (number : ℕ) → Leads Awake (refused_by p number) Awake
unfolding refused_by
refused_far p number = Leads_either (has_election p number) (puts (Acked p) followed_by yields) nothing
    (Leads_from (λ x past h. h.0) (Leads_then {Q = Awake} (puts (Acked p)) yields (far (Acked p) refl) (timely yields_far)))
    (Leads_from (λ x past h. h.0) Leads_nothing)

-- what a candidate does with a message
pub candidate_far : (p : PeerId) (m : MessageValue) (k : Kind) → Leads Awake (candidate_takes_kind p m k) Awake
unfolding candidate_takes_kind
candidate_far p m MasterUp = timely (follow_far p)
candidate_far p m MasterAck = timely (follow_far p)
candidate_far p m Election = post_far p Refuse m.number refl
candidate_far p m Accept = calm {sorts = Acking ∷ Counting ∷ []} refl refl (built_accepted_by p m.number tt)
candidate_far p m Refuse = refused_far p m.number
candidate_far p m QuitKind = quits_far p m.number
candidate_far p m Ack = acks_far p m.number
candidate_far p m _ = Leads_nothing

resolves_far : Leads Awake resolves Awake
unfolding resolves
resolves_far = Leads_either (is_armed ResolveAlarm) nothing (arms ResolveAlarm WINDOW followed_by posts_to_others ResolveKind 0)
    (Leads_from (λ x past h. h.0) Leads_nothing)
    (Leads_from (λ x past h. h.0) (Leads_then {Q = Awake} (arms ResolveAlarm WINDOW) (posts_to_others ResolveKind 0) arms_resolve
    (to_others_far ResolveKind refl)))

-- what a master does with a message
pub master_far : (p : PeerId) (m : MessageValue) (k : Kind) → Leads Awake (master_takes_kind p m k) Awake
unfolding master_takes_kind
master_far p m MasterReq = post_far p MasterAck m.number refl
master_far p m ResolveKind = post_far p MasterAck m.number refl
master_far p m SlaveUp = calm {sorts = Correcting ∷ Tabling ∷ []} refl refl (built_joins p m.number tt tt)
master_far p m Election = calm {sorts = Numbering ∷ []} refl refl (built_sends_away p tt)
master_far p m MasterUp = resolves_far
master_far p m Conflict = Leads_then {Q = Awake} (posts p Ack m.number) resolves (post_far p Ack m.number refl) resolves_far
master_far p m MasterAck = calm {sorts = Rivalling ∷ []} refl refl (built_finds_rival p tt)
master_far p m QuitKind = quits_far p m.number
master_far p m Ack = acks_far p m.number
master_far p m _ = Leads_nothing

-- the alarms

quiet_far : Leads (Due Quiet) quiet_rings Awake
unfolding quiet_rings
quiet_far = Leads_then {Q = Rang (Acts (Ring Quiet))} (puts (Ring Quiet)) (puts (Become Loose) followed_by searches) quiet_off
    (Leads_then {Q = Became Loose} (puts (Become Loose)) searches (Leads_from (ready_by Loose (λ m x older. refl)) (becomes Loose))
    (searches_far loose_searches))

search_far : Leads (Due Search) search_rings Awake
unfolding search_rings rings_or_late
search_far = Leads_then {Q = Arming Elect false true} (either_by (is_in_time Search) (puts (Ring Search)) (puts (Late Search))) arms_elect
    (Leads_either (is_in_time Search) (puts (Ring Search)) (puts (Late Search))
    (Leads_to (arming_by Search Elect (λ m x older at. (at, refl))) (rings_off Search refl))
    (Leads_to (arming_by Search Elect (λ m x older at. (at, refl))) (late_off Search refl (λ e. let bad : ⊥ = cc in bad)))) arms_any_elect

-- after Elect rang

-- a port that has given up its master
loosened : (x : ℕ) (past : Past) → AlarmsFit (manner past) past.seen → NextTo (manner past) past.seen (Acts (Become Loose)) →
    Unled x (grown x past (Become Loose ∷ []))
loosened x past h n = record {
  waking = record {
    acts = (tt, (n, h));
    starting = λ r. let bad : ⊥ = cc in absurd bad;
    candidate = λ r. let bad : ⊥ = cc in absurd bad;
    loose = λ i r. absurd (true≢false (sym i));
    follow = λ i p r. absurd (true≢false (sym i));
    master = λ l r. let bad : ⊥ = cc in absurd bad;
  };
  next = λ at. tt;
  alone = λ p r. let bad : ⊥ = cc in bad;
}

unled : (r : Role) → is_follow r ≡ false → (p : PeerId) → r ≡ Follow p → ⊥
unled r e p is = true≢false (sym (ap is_follow is) ∙ e)

-- the hold or the node itself refuses: the port isn't free to stand, or may not
refused : (past : Past) (x : ℕ) → may_stand_at x past ≡ false → past.may ≡ true → IsFree x (held past.seen) → {A : Type 0} → A
refused past x fails may free = absurd (true≢false (sym stands ∙ fails)) where
  holds : (o : Option (ℕ × PeerId)) → ((b : ℕ) (p : PeerId) → o ≡ Some (b, p) → b + HOLD ≤ x) → may_back_after o x past.own ≡ true
  holds None k = refl
  holds (Some b) k = or_right (b.1.0 == past.own.0) (nat_le (b.0 + HOLD) x) (le-leb (b.0 + HOLD) x (k b.0 b.1 refl))

  booted : nat_le ((held past.seen).boot + ELECT_MIN) x ≡ true
  booted = le-leb ((held past.seen).boot + ELECT_MIN) x free.boot

  stands : may_stand_at x past ≡ true
  stands = rw (may, booted, free.quit, holds (held past.seen).back free.back) refl

-- what may come where the port doesn't stand
searching : (x : ℕ) (past : Past) (next : Deed) → may_stand_at x past ≡ false → ((next ≡ Acts (Become Loose)) ⊎ Arms Search next) →
    Rang (Acts (Ring Elect)) x past → NextTo (manner past) past.seen next
searching x past next fails which h = h.next next (record {
  stands = λ may free. refused past x fails may (subst (IsFree x) h.held_is free);
  either = inr which;
})

loosens_far : Leads (λ x past. Off Elect (Acts (Ring Elect)) x past × (may_stand_at x past ≡ false)) loosens Unled
unfolding loosens
loosens_far = Leads_either follows_at (puts (Become Loose)) nothing
    (Leads_puts (Become Loose) (λ x past h. loosened x past h.0.0.rang.acts (searching x past (Acts (Become Loose)) h.0.1 (inl refl) h.0.0.rang)))
    (Leads_from (λ x past h. record {
      waking = h.0.0.waking;
      next = λ at. searching x past (Acts (Arm Search at)) h.0.1 (inr (at, refl)) h.0.0.rang;
      alone = unled (role past.seen) h.1;
    }) Leads_nothing)

elections_far : Leads Awake (begins_to_others Election) Awake
unfolding begins_to_others
elections_far = Leads_reading others_at (for_each (begins Election)) (λ ps. Leads_from (λ x past h. h.0)
    (Leads_each (begins Election) ps (λ p. calm {sorts = Numbering ∷ []} refl refl (built_begins Election p tt refl refl))))

backs_far : Leads (Became Candidate) backs_own Backed
unfolding backs_own
backs_far = Leads_reading own_at (λ own. puts (Back own)) (λ own. Leads_from (λ x past h. h.0) (backs_itself own))

candidature_far : Leads (Ready Candidate) candidature_row Awake
unfolding candidature_row
candidature_far = Leads_then {Q = Became Candidate} (puts (Become Candidate)) (backs_own followed_by (arms Window WINDOW followed_by begins_to_others Election))
    (becomes Candidate)
    (Leads_then {Q = Backed} backs_own (arms Window WINDOW followed_by begins_to_others Election) backs_far
    (Leads_then {Q = Awake} (arms Window WINDOW) (begins_to_others Election) candidate_windows elections_far))

elect_rings_far : Leads (Due Elect) elect_rings Awake
unfolding elect_rings
elect_rings_far = Leads_either (is_in_time Elect) (puts (Ring Elect) followed_by either_by may_stand_at candidature_row (loosens followed_by searches))
    (puts (Late Elect) followed_by arms_elect)
    (Leads_then {Q = Off Elect (Acts (Ring Elect))} (puts (Ring Elect)) (either_by may_stand_at candidature_row (loosens followed_by searches))
    (rings_off Elect refl)
    (Leads_either may_stand_at candidature_row (loosens followed_by searches)
    (Leads_from (λ x past h. ready_by Candidate (λ m x older. record { stands = λ may free. refl; either = inl refl }) x past h.0.rang) candidature_far)
    (Leads_then {Q = Unled} loosens searches loosens_far (searches_far arms_search))))
    (Leads_then {Q = Off Elect (Acts (Late Elect))} (puts (Late Elect)) arms_elect (late_off Elect refl (λ e. let bad : ⊥ = cc in bad))
    (Leads_from (arming_by Elect Elect (λ m x older at. (at, refl))) arms_any_elect))

leads_far : Leads (Ready Master) lead_row Awake
unfolding lead_row
leads_far = Leads_then {Q = Became Master} (puts (Become Master)) (arms Round ROUND followed_by posts_to_others MasterUp 0) (becomes Master)
    (Leads_then {Q = Awake} (arms Round ROUND) (posts_to_others MasterUp 0) master_rounds (to_others_far MasterUp refl))

-- an election that isn't strict is won
lost : (past : Past) (x : ℕ) → has_won x past ≡ false → past.strict ≡ false → {A : Type 0} → A
lost past x fails strict = absurd (true≢false (subst (λ b. (not b || nat_lt (length past.peers) (2 * length (backers past.seen) + 2)) ≡ false) strict fails))

yielding : (x : ℕ) (past : Past) → Rang (Acts (Ring Window)) x past → has_won x past ≡ false → Ready Loose x past
yielding x past h fails = record {
  acts = h.acts;
  next = h.next (Acts (Become Loose)) (record { wins = λ strict. lost past x fails strict; either = inr refl });
}

window_far : Leads (Due Window) window_rings Awake
unfolding window_rings
window_far = Leads_either (is_in_time Window) (puts (Ring Window) followed_by either_by has_won lead_row yields) (puts (Late Window) followed_by yields)
    (Leads_then {Q = Rang (Acts (Ring Window))} (puts (Ring Window)) (either_by has_won lead_row yields) window_off
    (Leads_either has_won lead_row yields
    (Leads_from (λ x past h. ready_by Master (λ m x older. record { wins = λ strict. refl; either = inl refl }) x past h.0) leads_far)
    (Leads_from (λ x past h. yielding x past h.0 h.1) yields_far)))
    (Leads_then {Q = Rang (Acts (Late Window))} (puts (Late Window)) yields window_late (Leads_from (ready_by Loose (λ m x older. refl)) yields_far))

quit_begins : (p : PeerId) → Leads Awake (begins QuitKind p) Awake
quit_begins p = calm {sorts = Numbering ∷ []} refl refl (built_begins QuitKind p tt refl refl)

-- an alarm that asks nothing of the next act
ring_asks : (a : Alarm) → ((x : ℕ) (older : List Seen) → asks_next (Acts (Ring a)) x older ≡ false) → is_lasting a ≡ true →
    Leads (λ x past. Due a x past × (is_in_time a x past ≡ true)) (puts (Ring a)) (Nearly (idle_after a) (lead_after a))
unfolding puts
ring_asks a silent lasts = record { run = λ x past h. settled_by a x (grown x past (Ring a ∷ [])) (silent x past.seen) ((rings_off a lasts).run x past h) }

late_asks : (a : Alarm) → ((x : ℕ) (older : List Seen) → asks_next (Acts (Late a)) x older ≡ false) → is_lasting a ≡ true → a ≢ Quiet →
    Leads (λ x past. Due a x past × (is_in_time a x past ≡ false)) (puts (Late a)) (Nearly (idle_after a) (lead_after a))
unfolding puts
late_asks a silent lasts other = record {
  run = λ x past h. settled_by a x (grown x past (Late a ∷ [])) (silent x past.seen)
      ((late_off a lasts other).run x past h);
}

resolve_far : Leads (Due ResolveAlarm) resolve_rings Awake
unfolding resolve_rings quits_rivals
resolve_far = Leads_either (is_in_time ResolveAlarm) (puts (Ring ResolveAlarm) followed_by reading rivals_at (for_each (begins QuitKind)))
    (puts (Late ResolveAlarm))
    (Leads_then {Q = Awake} (puts (Ring ResolveAlarm)) (reading rivals_at (for_each (begins QuitKind))) (ring_asks ResolveAlarm (λ x older. refl) refl)
    (Leads_reading rivals_at (for_each (begins QuitKind)) (λ ps. Leads_from (λ x past h. h.0) (Leads_each (begins QuitKind) ps quit_begins))))
    (late_asks ResolveAlarm (λ x older. refl) refl (λ e. let bad : ⊥ = cc in bad))

slaves_far : Leads Awake asks_slaves Awake
unfolding asks_slaves
slaves_far = Leads_reading table_at (for_each asks) (λ ps. Leads_from (λ x past h. h.0)
    (Leads_each asks ps (λ p. calm {sorts = Asking ∷ []} refl refl (At (Asks p tt) refl))))

round_far : (wait : Bool) → Leads (Due Round) (round_rings wait) Awake
unfolding round_rings begins_or_waits round_begins
round_far wait = Leads_either (is_in_time Round) (puts (Ring Round) followed_by begins_or_waits wait) (puts (Late Round) followed_by arms Round ROUND)
    (Leads_then {Q = Off Round (Acts (Ring Round))} (puts (Ring Round)) (begins_or_waits wait) (rings_off Round refl) (by_wait wait))
    (Leads_then {Q = Off Round (Acts (Late Round))} (puts (Late Round)) (arms Round ROUND) (late_off Round refl (λ e. let bad : ⊥ = cc in bad)) late_round)
  where
    by_wait : (b : Bool) → Leads (Off Round (Acts (Ring Round))) (begins_or_waits b) Awake
    by_wait true = wait_round
    by_wait false = Leads_then {Q = RoundArmed} (arms Round ROUND) (arms Probe PROBE followed_by
        (arms CloseAlarm CLOSE followed_by (posts_to_others MasterUp 0 followed_by asks_slaves))) begin_round
        (Leads_then {Q = ProbeArmed} (arms Probe PROBE) (arms CloseAlarm CLOSE followed_by (posts_to_others MasterUp 0 followed_by asks_slaves)) probe_round
        (Leads_then {Q = Awake} (arms CloseAlarm CLOSE) (posts_to_others MasterUp 0 followed_by asks_slaves) close_round
        (Leads_then {Q = Awake} (posts_to_others MasterUp 0) asks_slaves (to_others_far MasterUp refl) slaves_far)))

-- the measured are asked again
asks_probing : (p : PeerId) → Leads Probing (asks p) Probing
unfolding asks
asks_probing p = record { run = λ x past h. record { awake = keeps _ refl x past h.awake; other = refl } }

rings_probing : Leads (λ x past. Due Probe x past × (is_in_time Probe x past ≡ true)) (puts (Ring Probe)) Probing
unfolding puts
rings_probing = record { run = λ x past h. record { awake = (ring_asks Probe (λ y older. refl) refl).run x past h; other = refl } }

probe_far : Leads (Due Probe) probe_rings Awake
unfolding probe_rings asks_measured arms_next abandons
probe_far = Leads_either (is_in_time Probe) (puts (Ring Probe) followed_by (reading measured_at (for_each asks) followed_by either_by has_more
    (arms Probe PROBE) nothing)) (puts (Late Probe) followed_by puts Abandon)
    (Leads_then {Q = Probing} (puts (Ring Probe)) (reading measured_at (for_each asks) followed_by either_by has_more (arms Probe PROBE) nothing) rings_probing
    (Leads_then {Q = Probing} (reading measured_at (for_each asks)) (either_by has_more (arms Probe PROBE) nothing)
    (Leads_reading measured_at (for_each asks) (λ ps. Leads_from (λ x past h. h.0) (Leads_each asks ps asks_probing)))
    (Leads_either has_more (arms Probe PROBE) nothing (Leads_from (λ x past h. h.0) arms_probe) (Leads_from (λ x past h. h.0.awake) Leads_nothing))))
    (Leads_then {Q = Off Probe (Acts (Late Probe))} (puts (Late Probe)) (puts Abandon) (late_off Probe refl (λ e. let bad : ⊥ = cc in bad))
    (far_by Probe Abandon refl (λ m x older. refl)))

-- a round's close

corrects_far : (mean : ℤ) (p : PeerId) (best : Option Estimate) → Leads Awake (corrects_by mean p best) Awake
corrects_far mean p best = calm {sorts = correct_sorts} refl refl (built_corrects_by mean p tt best (owed best)) where
  owed : (b : Option Estimate) → Corrects nothing_owed mean b
  owed None = tt
  owed (Some b) = (tt, λ e. tt)

closes_own : (g : Group) (round : List Standing) → Leads (Off CloseAlarm (Acts (Ring CloseAlarm))) (closes_with true g round) Awake
unfolding closes_with abandons corrects_peer moves
closes_own g round = let mean = mean_by true g in
    Leads_either (can_adjust mean) (puts (close_act true g) followed_by (adjusts mean followed_by for_each (λ s. corrects_by mean s.peer s.best) round))
    (puts Abandon)
    (Leads_from (λ x past h. h.0) (Leads_then {Q = Closed mean} (puts (close_act true g))
    (adjusts mean followed_by for_each (λ s. corrects_by mean s.peer s.best) round)
    (closes_by g.count g.lo g.width mean)
    (Leads_then {Q = Awake} (adjusts mean) (for_each (λ s. corrects_by mean s.peer s.best) round) (corrects_by_mean mean)
    (Leads_each (λ (s : Standing). corrects_by mean s.peer s.best) round (λ s. corrects_far mean s.peer s.best)))))
    (Leads_from (λ x past h. h.0) (far_by CloseAlarm Abandon refl (λ m x older. inr refl)))

closes_other : (g : Group) (round : List Standing) → Leads (Off CloseAlarm (Acts (Ring CloseAlarm))) (closes_with false g round) Awake
unfolding closes_with abandons corrects_peer moves
closes_other g round =
    Leads_either (can_adjust (pos 0)) (puts (close_act false g) followed_by (nothing followed_by for_each (λ s. corrects_by (pos 0) s.peer s.best) round))
    (puts Abandon)
    (Leads_from (λ x past h. h.0) (Leads_then {Q = Awake} (puts (close_act false g)) (nothing followed_by for_each (λ s. corrects_by (pos 0) s.peer s.best)
    round)
    (closes_still g.count g.lo g.width)
    (Leads_then {Q = Awake} nothing (for_each (λ s. corrects_by (pos 0) s.peer s.best) round) Leads_nothing
    (Leads_each (λ (s : Standing). corrects_by (pos 0) s.peer s.best) round (λ s. corrects_far (pos 0) s.peer s.best)))))
    (Leads_from (λ x past h. h.0) (far_by CloseAlarm Abandon refl (λ m x older. inr refl)))

closes_far : (own : Bool) (g : Group) (round : List Standing) → Leads (Off CloseAlarm (Acts (Ring CloseAlarm))) (closes_with own g round) Awake
closes_far true g round = closes_own g round
closes_far false g round = closes_other g round

close_far : (own : Bool) → Leads (Due CloseAlarm) (close_rings own) Awake
unfolding close_rings closes abandons
close_far own = Leads_either (is_in_time CloseAlarm) (reading round_at (λ round. puts (Ring CloseAlarm) followed_by closes_with own
    (group_of SPAN (estimates round)) round)) (puts (Late CloseAlarm) followed_by puts Abandon)
    (Leads_reading round_at _ (λ round. Leads_from (λ x past h. h.0) (Leads_then {Q = Off CloseAlarm (Acts (Ring CloseAlarm))} (puts (Ring CloseAlarm))
    (closes_with own (group_of SPAN (estimates round)) round) (rings_off CloseAlarm refl) (closes_far own (group_of SPAN (estimates round)) round))))
    (Leads_then {Q = Off CloseAlarm (Acts (Late CloseAlarm))} (puts (Late CloseAlarm)) (puts Abandon) (late_off CloseAlarm refl (λ e. let bad : ⊥ = cc in bad))
    (far_by CloseAlarm Abandon refl (λ m x older. refl)))

pub alarm_far : (own wait : Bool) (a : Alarm) → Leads (Due a) (alarm_rings own wait a) Awake
unfolding alarm_rings
alarm_far own wait Quiet = quiet_far
alarm_far own wait Search = search_far
alarm_far own wait Elect = elect_rings_far
alarm_far own wait Window = window_far
alarm_far own wait Probe = probe_far
alarm_far own wait CloseAlarm = close_far own
alarm_far own wait ResolveAlarm = resolve_far
alarm_far own wait Round = round_far wait

pub rings_far : (own wait : Bool) (a : Alarm) → Leads Awake (rings own wait a) Awake
unfolding rings
rings_far own wait a = Leads_either (is_due a) (alarm_rings own wait a) nothing (alarm_far own wait a) (Leads_from (λ x past h. h.0) Leads_nothing)

pub sends_far : Leads Awake due_sends Awake
sends_far = calm {sorts = send_sorts} refl refl built_due_sends

tests_far : (from : Place) (number : ℕ) → Leads Awake (tests from number) Awake
unfolding tests
tests_far from number = Leads_either is_awake (posts_back from Ack number followed_by either_by may_be_asked candidature_row nothing) nothing
    (Leads_from (λ x past h. h.0) (Leads_then {Q = Awake} (posts_back from Ack number) (either_by may_be_asked candidature_row nothing)
    (emit (Posting ∷ []) (posts_back from Ack number) refl (Emits_posts_back from Ack number refl))
    (Leads_either may_be_asked candidature_row nothing (Leads_from (λ x past h. ready Candidate x past h.0) candidature_far)
    (Leads_from (λ x past h. h.0) Leads_nothing))))
    (Leads_from (λ x past h. h.0) Leads_nothing)

says_far : (p : PeerId) (m : MessageValue) (r : Role) → Leads Awake (says_in p m r) Awake
unfolding says_in slave_takes candidate_takes master_takes
says_far p m Starting = Leads_nothing
says_far p m Candidate = candidate_far p m m.kind
says_far p m Master = master_far p m m.kind
says_far p m _ = slave_far p m m.kind

peer_far : (from : Place) (row : PeerId → Row) → ((p : PeerId) → Leads Awake (row p) Awake) → Leads Awake (from_peer from row) Awake
unfolding from_peer
peer_far (Peer p) row d = Leads_either (is_heard p) (row p) nothing (Leads_from (λ x past h. h.0) (d p)) (Leads_from (λ x past h. h.0) Leads_nothing)
peer_far Stranger row d = Leads_nothing

peer_says_far : (m : MessageValue) (p : PeerId) → Leads Awake (peer_says m p) Awake
unfolding peer_says
peer_says_far m p = Leads_reading role_at (says_in p m) (λ r. Leads_from (λ x past h. h.0) (says_far p m r))

-- what is done with any message
kind_far : (charge : Bool) (from : Place) (m : MessageValue) (k : Kind) → Leads Awake (handles_kind charge from m k) Awake
unfolding handles_kind
kind_far charge from m Msite = calm {sorts = Posting ∷ []} refl refl (built_names_master from m.number (place_unchanged from) tt tt)
kind_far charge from m MsiteReq = calm {sorts = Posting ∷ []} refl refl (built_says_master from m.number (place_unchanged from) tt tt)
kind_far charge from m TraceOn = calm {sorts = Tracing ∷ Posting ∷ []} refl refl (built_traces from m.number (place_unchanged from) tt tt true)
kind_far charge from m TraceOff = calm {sorts = Tracing ∷ Posting ∷ []} refl refl (built_traces from m.number (place_unchanged from) tt tt false)
kind_far charge from m Test = tests_far from m.number
kind_far charge from m Date = calm {sorts = date_sorts} refl refl (built_date_of charge m tt tt from (place_unchanged from) tt)
kind_far charge from m SetDate = calm {sorts = date_sorts} refl refl (built_date_of charge m tt tt from (place_unchanged from) tt)
kind_far charge from m DateReq = peer_far from (date_request_of charge m) (λ p. calm {sorts = date_sorts} refl refl (built_date_request_of charge m tt tt p tt))
kind_far charge from m SetDateReq = peer_far from (date_request_of charge m) (λ p. calm {sorts = date_sorts} refl refl
    (built_date_request_of charge m tt tt p tt))
kind_far charge from m DateAck = peer_far from (date_acked m) (λ p. calm {sorts = Acking ∷ []} refl refl (built_date_acked m p tt))
kind_far charge from m LoopKind = Leads_nothing
kind_far charge from m _ = peer_far from (peer_says m) (peer_says_far m)

handles_far : (steer charge : Bool) (from : Place) (t : Taken) → Leads Awake (handles steer charge from t) Awake
unfolding handles
handles_far steer charge from (Bad fault) = Leads_nothing
handles_far steer charge from (Good (Message m)) = Leads_either (is_left steer m.kind) nothing (handles_kind charge from m m.kind)
    (Leads_from (λ x past h. h.0) Leads_nothing) (Leads_from (λ x past h. h.0) (kind_far charge from m m.kind))
handles_far steer charge from (Good (Stamp (Request word counter))) = calm {sorts = Posting ∷
    []} refl refl (built_replies from word counter (place_unchanged from) tt tt)
handles_far steer charge from (Good (Stamp (Reply r))) = peer_far from (peer_replies r) (λ p. calm {sorts = Sampling ∷
    []} refl refl (built_peer_replies r p tt tt))

pub takes_far : (steer charge : Bool) (from : Place) (t : Taken) → Leads Awake (takes steer charge from t) Awake
unfolding takes
takes_far steer charge from t = Leads_then {Q = Awake} (puts (Took from t)) (either_by (is_own from) nothing (handles steer charge from t))
    (far (Took from t) refl)
    (Leads_either (is_own from) nothing (handles steer charge from t) (Leads_from (λ x past h. h.0) Leads_nothing)
    (Leads_from (λ x past h. h.0) (handles_far steer charge from t)))
