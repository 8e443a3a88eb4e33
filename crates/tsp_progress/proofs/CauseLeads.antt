-- Each row of a port puts its acts in the order that they need.
use Rattle.std.proofs.Common.{sym, ap, true≢false, ◌∙◌, ◌≡◌, ℕ, ℤ, ◌+◌, Bool, true, false, List, [], ◌∷◌, Option, None, Some, inl, inr, map, refl}
use Rattle.tsp_base.proofs.LeadsLemmas.{Leads_then, Leads_either, Leads_reading, Leads_nothing, Leads_puts, Leads_each, Leads_from, Leads_to}
use Rattle.tsp_group.specs.{Groups.group_of, declared.group.Group.Group}
use Rattle.tsp_rules.specs.CandidateRows.{has_won, lead_row, yields, window_rings}
use Rattle.tsp_rules.specs.CommonRows.{arms_elect, backs_own, candidature_row, own_at, searches}
use Rattle.tsp_rules.specs.SlaveRows.{quiet_rings, rings_or_late, search_rings, loosens, elect_rings}
use Rattle.tsp_rules.specs.{ResolveRows.resolve_rings, ResolveRows.quits_rivals, ClockRows.adjusts, ClockRows.can_adjust, GateRows.loosens_master}
use Rattle.tsp_rules.specs.{GateRows.repost, GateRows.reposts, GateRows.sends_loops}
use Rattle.tsp_rules.specs.RoundRows.{Standing, round_rings, begins_or_waits, round_begins, asks, asks_slaves, probe_rings, asks_measured, arms_next, abandons}
use Rattle.tsp_rules.specs.RoundRows.{has_more, measured_at, close_act, close_rings, closes, closes_with, corrects_by, corrects_peer, estimates, mean_by, moves}
use Rattle.tsp_rules.specs.RoundRows.{round_at}
use Rattle.tsp_rules.specs.Guards.{delay_at, is_due, is_in_time, is_own, may_stand_at, follows_at, table_at, rivals_at}
use Rattle.tsp_rules.specs.SendRows.{begins, begins_to_others, due_sends, others_at}
use Rattle.tsp_rules.specs.Answers.{alarm_rings, handles, rings, takes}
use Rattle.tsp_rules.proofs.{EmitsBuilt.emits_built, EmitsBuilt.nothing_owed, Unchanged.unchanged, Built.At, Built.Built, Built.Corrects, RowCodes.Asks}
use Rattle.tsp_rules.proofs.{BuiltGate.built_sends_loops}
use Rattle.tsp_rules.proofs.{BuiltShared.built_begins, BuiltSends.built_due_sends, BuiltSends.send_sorts, BuiltRounds.correct_sorts}
use Rattle.tsp_rules.proofs.{BuiltRounds.built_corrects_by}
use Rattle.tsp_progress.specs.CausesFit.{CausesFit, Heard, Unheard, backs_itself_now, elects_by, loosens_by, newest_is, searches_by, seeks_by, wins_by}
use Rattle.tsp_progress.specs.AlarmsFit.{stands_now}
use Rattle.tsp_progress.proofs.{PortWakes.no_near, PortWakes.out_of, Waking.near_sorts}
use Rattle.tsp_rules.specs.Values.{Act, Took, Become, Arm, Ring, Late, Back, Quit, Abandon, Alarm, Quiet, Search, Elect, Window, Probe, CloseAlarm}
use Rattle.tsp_rules.specs.Values.{ResolveAlarm, Round, PeerId, Place, Peer, Stranger, Port, Role, Starting, Loose, Follow, Candidate, Master, Kind, Accept}
use Rattle.tsp_rules.specs.Values.{Ack, AdjTime, Conflict, Date, DateAck, DateReq, Election, LoopKind, MasterAck, MasterReq, MasterUp, Msite, MsiteReq}
use Rattle.tsp_rules.specs.Values.{QuitKind, Refuse, ResolveKind, SetDate, SetDateReq, SetTime, SlaveUp, Test, TraceOff, TraceOn, Taken, Good, Bad, Message}
use Rattle.tsp_rules.specs.Values.{Stamp, Request, Reply, WINDOW, ROUND, PROBE, CLOSE, WAIT, SPAN}
use Rattle.tsp_base.specs.Words.{Acts, Deed, Did, Estimate, MessageValue, Past, Received, Row, Seen, Leads, arms, for_each, grown, nothing, others, posts, puts}
use Rattle.tsp_base.specs.Words.{posts_to_others, either_by, reading, taken, taken_after, ◌followed_by◌}
use Rattle.tsp_rules.proofs.Emits.{Sort, Posting, Numbering, Moving, Asking, Acking, Counting, Correcting, Tabling, Tracing, Passing, Sampling, Taking, Emits}
use Rattle.tsp_rules.proofs.Emits.{Keeps_by, is_in, is_part, sort_of, sort_of_kind, Emits_posts, Emits_posts_to_others, Emits_adjusts}
use Rattle.tsp_rules.specs.CandidateRows.{candidate_takes, candidate_takes_kind}
use Rattle.tsp_rules.specs.{SlaveRows.slave_takes, SlaveRows.slave_takes_kind, MasterRows.master_takes, MasterRows.master_takes_kind, ResolveRows.resolves}
use Rattle.tsp_rules.specs.{SendRows.acknowledges, DateRows.date_request_of, DateRows.date_acked}
use Rattle.tsp_rules.specs.{Guards.is_armed, Guards.is_heard, Guards.role_at}
use Rattle.tsp_rules.specs.Answers.{says_in, peer_says, peer_replies, from_peer, handles_kind, is_left}
use Rattle.tsp_rules.proofs.BuiltShared.{built_acknowledges, built_names_master, built_says_master, built_traces, built_replies}
use Rattle.tsp_rules.proofs.BuiltAnswers.{date_sorts, built_date_of, built_date_request_of, built_date_acked, built_handles, built_peer_replies, says_sorts}
use Rattle.tsp_rules.proofs.BuiltAnswers.{taken_sorts}
use Rattle.tsp_rules.proofs.{BuiltRoles.built_accepted_by, BuiltRoles.built_joins, BuiltRoles.yield_sorts, BuiltGate.built_loosens_master}
use Rattle.tsp_rules.proofs.{Unchanged.place_unchanged, EmitsBuilt.nothing_taken, Built.Wider}
use Rattle.tsp_progress.specs.CausesFit.{stirred, stirs, stirs_in}

abbrev pub Caused : ℕ → Past → Type 0
Caused x past = CausesFit past.seen

-- the step has taken a datagram
pub record Hearing (x : ℕ) (past : Past) : Type 0 where
  pub causes : CausesFit past.seen
  pub heard : Heard past.seen

-- this is the newest deed
pub record Newest (deed : Deed) (x : ℕ) (past : Past) : Type 0 where
  pub causes : CausesFit past.seen
  pub is : (test : Deed → Bool) → newest_is test past.seen ≡ test deed

-- acts that take nothing
untaken : (sorts : List Sort) → is_in Taking sorts ≡ false → (a : Act) → is_in (sort_of a) sorts ≡ true → (o : Option Received) → taken_after (Acts a) o ≡ o
untaken sorts none (Took from t) e o = absurd (true≢false (sym e ∙ none))
untaken sorts none _ e o = refl

-- after such a message anything may come
pub heard_row : (sorts : List Sort) (row : Row) → is_in Taking sorts ≡ false → Emits sorts row → Leads Hearing row Hearing
unfolding puts
heard_row sorts row none e = record {
  run = λ x past h. Keeps_by {T = ℕ} sorts (λ p n. Hearing n p) row
      (λ a i y p n k. record { causes = (inl k.heard, k.causes); heard = ap stirred (untaken sorts none a i (taken p.seen)) ∙ k.heard }) e x past x h;
}

pub unhear : (x : ℕ) (past : Past) → Hearing x past → Caused x past
unhear x past h = h.causes

pub took_leads : (from : Place) (t : Taken) → stirs_in t ≡ true → Leads Caused (puts (Took from t)) Hearing
took_leads from t e = Leads_puts (Took from t) (λ x past h. record { causes = (inr tt, h); heard = e })

pub gives_up_cause : Leads Hearing loosens_master Caused
gives_up_cause = Leads_to unhear (heard_row yield_sorts loosens_master refl (emits_built refl built_loosens_master))

-- acts that owe nothing
abbrev pub owes_cause : Act → Bool
owes_cause (Arm Quiet at) = true
owes_cause (Arm Search at) = true
owes_cause (Arm Elect at) = true
owes_cause (Arm Window at) = true
owes_cause (Become r) = true
owes_cause (Quit p) = true
owes_cause _ = false

free_cause : (a : Act) → owes_cause a ≡ false → (d : Did) (before : List Seen) → Unheard (Acts a) d before
free_cause (Arm Quiet at) e d before = absurd (true≢false e)
free_cause (Arm Search at) e d before = absurd (true≢false e)
free_cause (Arm Elect at) e d before = absurd (true≢false e)
free_cause (Arm Window at) e d before = absurd (true≢false e)
free_cause (Become r) e d before = absurd (true≢false e)
free_cause (Quit p) e d before = absurd (true≢false e)
free_cause (Arm _ at) e d before = tt
free_cause _ e d before = tt

keeps_cause : (a : Act) → owes_cause a ≡ false → (x : ℕ) (past : Past) → Caused x past → Caused x (grown x past (a ∷ []))
keeps_cause a e x past h = (inr (free_cause a e (record { step = past.step; tick = x; deed = Acts a }) past.seen), h)

pub free_puts : (a : Act) → owes_cause a ≡ false → Leads Caused (puts a) Caused
free_puts a e = Leads_puts a (keeps_cause a e)

free_arms : (a : Alarm) (long : ℕ) → ((at : ℕ) → owes_cause (Arm a at) ≡ false) → Leads Caused (arms a long) Caused
unfolding arms
free_arms a long k = record { run = λ x past h. keeps_cause (Arm a (x + long)) (k (x + long)) x past h }

-- acts of other sorts owe nothing
arm_cause : (a : Alarm) (at : ℕ) → is_in (sort_of (Arm a at)) near_sorts ≡ false → owes_cause (Arm a at) ≡ false
arm_cause Probe at e = refl
arm_cause CloseAlarm at e = refl
arm_cause _ at e = absurd (true≢false e)

become_cause : (r : Role) → is_in (sort_of (Become r)) near_sorts ≡ false → owes_cause (Become r) ≡ false
become_cause Master e = absurd (true≢false e)
become_cause (Follow p) e = absurd (true≢false e)
become_cause _ e = absurd (true≢false e)

other_cause : (a : Act) → is_in (sort_of a) near_sorts ≡ false → owes_cause a ≡ false
other_cause (Arm a at) e = arm_cause a at e
other_cause (Become r) e = become_cause r e
other_cause (Quit p) e = absurd (true≢false e)
other_cause _ e = refl

emits_cause : (sorts : List Sort) (row : Row) → no_near sorts ≡ true → Emits sorts row → Leads Caused row Caused
unfolding puts
emits_cause sorts row apart e = record {
  run = λ x past h. Keeps_by {T = ℕ} sorts (λ p n. Caused n p) row
      (λ a i y p n k. keeps_cause a (other_cause a (out_of sorts apart (sort_of a) i)) y p k) e x past x h;
}

built_cause : {sorts : List Sort} {k c : ℕ} {r r' : Row} → is_part sorts sorts ≡ true → no_near sorts ≡ true → Built unchanged nothing_owed sorts k c r r' →
    Leads Caused r Caused
built_cause {sorts} {r = r} own apart d = emits_cause sorts r apart (emits_built own d)

to_others : (kind : Kind) → is_in (sort_of_kind kind) (Posting ∷ Numbering ∷ []) ≡ true → Leads Caused (posts_to_others kind 0) Caused
to_others kind e = emits_cause (Posting ∷ Numbering ∷ []) (posts_to_others kind 0) refl (Emits_posts_to_others kind 0 e)

pub sends_cause : Leads Caused due_sends Caused
sends_cause = built_cause {sorts = send_sorts} refl refl built_due_sends

pub loops_cause : (q : Port) → Leads Caused (sends_loops q) Caused
loops_cause q = built_cause {sorts = Posting ∷ []} refl refl (built_sends_loops q tt)

pub reposts_cause : (m : MessageValue) → Leads Caused (reposts m) Caused
unfolding reposts
reposts_cause m = record { run = λ x past h. each x past (others past.own past.peers) h } where
  each : (x : ℕ) (past : Past) (ps : List PeerId) → Caused x past → Caused x (grown x past (map (repost m) ps))
  each x past [] h = h
  each x past (p ∷ ps) h = each x (grown x past (repost m p ∷ [])) ps (keeps_cause (repost m p) refl x past h)

-- what comes of messages of other kinds

abbrev all_handled_sorts : List Sort
all_handled_sorts = Tracing ∷ Passing ∷ Sampling ∷ says_sorts

post_cause : (p : PeerId) (kind : Kind) (number : ℕ) → is_in (sort_of_kind kind) (Posting ∷ Numbering ∷ []) ≡ true → Leads Caused (posts p kind number) Caused
post_cause p kind number e = emits_cause (Posting ∷ Numbering ∷ []) (posts p kind number) refl (Emits_posts p kind number e)

acks_cause : (p : PeerId) (number : ℕ) → Leads Caused (acknowledges p number) Caused
acks_cause p number = built_cause {sorts = Acking ∷ []} refl refl (built_acknowledges p number tt)

slave_cause : (p : PeerId) (m : MessageValue) (k : Kind) → stirs k ≡ false → Leads Caused (slave_takes_kind p m k) Caused
unfolding slave_takes_kind
slave_cause p m MasterUp e = absurd (true≢false e)
slave_cause p m MasterAck e = absurd (true≢false e)
slave_cause p m Election e = absurd (true≢false e)
slave_cause p m AdjTime e = absurd (true≢false e)
slave_cause p m SetTime e = absurd (true≢false e)
slave_cause p m QuitKind e = absurd (true≢false e)
slave_cause p m Ack e = acks_cause p m.number
slave_cause p m _ e = Leads_nothing

candidate_cause : (p : PeerId) (m : MessageValue) (k : Kind) → stirs k ≡ false → Leads Caused (candidate_takes_kind p m k) Caused
unfolding candidate_takes_kind
candidate_cause p m MasterUp e = absurd (true≢false e)
candidate_cause p m MasterAck e = absurd (true≢false e)
candidate_cause p m Election e = absurd (true≢false e)
candidate_cause p m Refuse e = absurd (true≢false e)
candidate_cause p m QuitKind e = absurd (true≢false e)
candidate_cause p m Accept e = built_cause {sorts = Acking ∷ Counting ∷ []} refl refl (built_accepted_by p m.number tt)
candidate_cause p m Ack e = acks_cause p m.number
candidate_cause p m _ e = Leads_nothing

resolves_cause : Leads Caused resolves Caused
unfolding resolves
resolves_cause = Leads_either (is_armed ResolveAlarm) nothing (arms ResolveAlarm WINDOW followed_by posts_to_others ResolveKind 0)
    (Leads_from (λ x past h. h.0) Leads_nothing)
    (Leads_from (λ x past h. h.0) (Leads_then {Q = Caused} (arms ResolveAlarm WINDOW) (posts_to_others ResolveKind 0)
    (free_arms ResolveAlarm WINDOW (λ at. refl)) (to_others ResolveKind refl)))

master_cause : (p : PeerId) (m : MessageValue) (k : Kind) → stirs k ≡ false → Leads Caused (master_takes_kind p m k) Caused
unfolding master_takes_kind
master_cause p m MasterUp e = absurd (true≢false e)
master_cause p m MasterAck e = absurd (true≢false e)
master_cause p m Election e = absurd (true≢false e)
master_cause p m QuitKind e = absurd (true≢false e)
master_cause p m MasterReq e = post_cause p MasterAck m.number refl
master_cause p m ResolveKind e = post_cause p MasterAck m.number refl
master_cause p m SlaveUp e = built_cause {sorts = Correcting ∷ Tabling ∷ []} refl refl (built_joins p m.number tt tt)
master_cause p m Conflict e = Leads_then {Q = Caused} (posts p Ack m.number) resolves (post_cause p Ack m.number refl) resolves_cause
master_cause p m Ack e = acks_cause p m.number
master_cause p m _ e = Leads_nothing

says_cause : (p : PeerId) (m : MessageValue) (r : Role) → stirs m.kind ≡ false → Leads Caused (says_in p m r) Caused
unfolding says_in slave_takes candidate_takes master_takes
says_cause p m Starting e = Leads_nothing
says_cause p m Candidate e = candidate_cause p m m.kind e
says_cause p m Master e = master_cause p m m.kind e
says_cause p m _ e = slave_cause p m m.kind e

peer_cause : (from : Place) (row : PeerId → Row) → ((p : PeerId) → Leads Caused (row p) Caused) → Leads Caused (from_peer from row) Caused
unfolding from_peer
peer_cause (Peer p) row d = Leads_either (is_heard p) (row p) nothing (Leads_from (λ x past h. h.0) (d p)) (Leads_from (λ x past h. h.0) Leads_nothing)
peer_cause Stranger row d = Leads_nothing

peer_says_holds : (m : MessageValue) (p : PeerId) → stirs m.kind ≡ false → Leads Caused (peer_says m p) Caused
unfolding peer_says
peer_says_holds m p e = Leads_reading role_at (says_in p m) (λ r. Leads_from (λ x past h. h.0) (says_cause p m r e))

kind_cause : (charge : Bool) (from : Place) (m : MessageValue) (k : Kind) → m.kind ≡ k → stirs k ≡ false → Leads Caused (handles_kind charge from m k) Caused
unfolding handles_kind
kind_cause charge from m Msite is e = built_cause {sorts = Posting ∷ []} refl refl (built_names_master from m.number (place_unchanged from) tt tt)
kind_cause charge from m MsiteReq is e = built_cause {sorts = Posting ∷ []} refl refl (built_says_master from m.number (place_unchanged from) tt tt)
kind_cause charge from m TraceOn is e = built_cause {sorts = Tracing ∷ Posting ∷ []} refl refl (built_traces from m.number (place_unchanged from) tt tt true)
kind_cause charge from m TraceOff is e = built_cause {sorts = Tracing ∷ Posting ∷ []} refl refl (built_traces from m.number (place_unchanged from) tt tt false)
kind_cause charge from m Test is e = absurd (true≢false e)
kind_cause charge from m Date is e = built_cause {sorts = date_sorts} refl refl (built_date_of charge m tt tt from (place_unchanged from) tt)
kind_cause charge from m SetDate is e = built_cause {sorts = date_sorts} refl refl (built_date_of charge m tt tt from (place_unchanged from) tt)
kind_cause charge from m DateReq is e = peer_cause from (date_request_of charge m) (λ p. built_cause {sorts = date_sorts} refl refl
    (built_date_request_of charge m tt tt p tt))
kind_cause charge from m SetDateReq is e = peer_cause from (date_request_of charge m) (λ p. built_cause {sorts = date_sorts} refl refl
    (built_date_request_of charge m tt tt p tt))
kind_cause charge from m DateAck is e = peer_cause from (date_acked m) (λ p. built_cause {sorts = Acking ∷ []} refl refl (built_date_acked m p tt))
kind_cause charge from m LoopKind is e = Leads_nothing
kind_cause charge from m _ is e = peer_cause from (peer_says m) (λ p. peer_says_holds m p (ap stirs is ∙ e))

handles_cause : (steer charge : Bool) (from : Place) (t : Taken) → stirs_in t ≡ false → Leads Caused (handles steer charge from t) Caused
unfolding handles
handles_cause steer charge from (Bad fault) e = Leads_nothing
handles_cause steer charge from (Good (Message m)) e = Leads_either (is_left steer m.kind) nothing (handles_kind charge from m m.kind)
    (Leads_from (λ x past h. h.0) Leads_nothing) (Leads_from (λ x past h. h.0) (kind_cause charge from m m.kind refl e))
handles_cause steer charge from (Good (Stamp (Request word counter))) e = built_cause {sorts = Posting ∷
    []} refl refl (built_replies from word counter (place_unchanged from) tt tt)
handles_cause steer charge from (Good (Stamp (Reply r))) e = peer_cause from (peer_replies r) (λ p. built_cause {sorts = Sampling ∷
    []} refl refl (built_peer_replies r p tt tt))

handles_heard : (steer charge : Bool) (from : Place) (t : Taken) → Leads Hearing (handles steer charge from t) Hearing
handles_heard steer charge from t = heard_row all_handled_sorts (handles steer charge from t) refl
    (emits_built refl (Wider (handled_part t) (built_handles steer charge from t (place_unchanged from) tt (nothing_taken t)))) where
      handled_part : (t : Taken) → is_part (taken_sorts t) all_handled_sorts ≡ true
      handled_part (Good (Message m)) = refl
      handled_part _ = refl

pub takes_cause : (steer charge : Bool) (from : Place) (t : Taken) → Leads Caused (takes steer charge from t) Caused
unfolding takes
takes_cause steer charge from t = by_case (stirs_in t) refl where
  by_case : (b : Bool) → stirs_in t ≡ b → Leads Caused (puts (Took from t) followed_by either_by (is_own from) nothing (handles steer charge from t)) Caused
  by_case true e = Leads_then {Q = Hearing} (puts (Took from t)) (either_by (is_own from) nothing (handles steer charge from t)) (took_leads from t e)
      (Leads_to unhear (Leads_either (is_own from) nothing (handles steer charge from t) (Leads_from (λ x past h. h.0) Leads_nothing)
      (Leads_from (λ x past h. h.0) (handles_heard steer charge from t))))
  by_case false e = Leads_then {Q = Caused} (puts (Took from t)) (either_by (is_own from) nothing (handles steer charge from t)) (free_puts (Took from t) refl)
      (Leads_either (is_own from) nothing (handles steer charge from t) (Leads_from (λ x past h. h.0) Leads_nothing)
      (Leads_from (λ x past h. h.0) (handles_cause steer charge from t e)))

-- an act that owes nothing, as the newest
newest : {P : ℕ → Past → Type 0} (a : Act) → ((x : ℕ) (past : Past) → P x past → Caused x past) → owes_cause a ≡ false → Leads P (puts a) (Newest (Acts a))
newest a k e = Leads_puts a (λ x past h. record { causes = keeps_cause a e x past (k x past h); is = λ test. refl })

settle : {deed : Deed} (x : ℕ) (past : Past) → Newest deed x past → Caused x past
settle x past h = h.causes

-- what the newest act allows
loosens_cause : {deed : Deed} → loosens_by deed ≡ true → Leads (Newest deed) (puts (Become Loose)) (Newest (Acts (Become Loose)))
loosens_cause e = Leads_puts (Become Loose) (λ x past h. record { causes = (inr (h.is loosens_by ∙ e), h.causes); is = λ test. refl })

-- the port may search
MaySearch : ℕ → Past → Type 0
MaySearch x past = CausesFit past.seen × (newest_is searches_by past.seen ≡ true)

searches_cause : Leads MaySearch searches Caused
unfolding searches arms MaySearch
searches_cause = Leads_then {Q = Caused} (arms Search WINDOW) (posts_to_others MasterReq 0) (record { run = λ x past h. (inr h.1, h.0) })
    (to_others MasterReq refl)

elects_cause : {deed : Deed} → seeks_by deed ≡ true → Leads (Newest deed) arms_elect Caused
unfolding arms_elect arms
elects_cause e = Leads_reading delay_at (arms Elect) (λ long. record { run = λ x past h. (inr (h.0.is seeks_by ∙ e), h.0.causes) })

yields_cause : {deed : Deed} → loosens_by deed ≡ true → Leads (Newest deed) yields Caused
unfolding yields
yields_cause e = Leads_then {Q = Newest (Acts (Become Loose))} (puts (Become Loose)) arms_elect (loosens_cause e) (elects_cause refl)

quiet_cause : Leads Caused quiet_rings Caused
unfolding quiet_rings MaySearch
quiet_cause = Leads_then {Q = Newest (Acts (Ring Quiet))} (puts (Ring Quiet)) (puts (Become Loose) followed_by searches)
    (newest (Ring Quiet) (λ x past h. h) refl)
    (Leads_then {Q = Newest (Acts (Become Loose))} (puts (Become Loose)) searches (loosens_cause refl) (Leads_from (λ x past h. (h.causes, h.is searches_by))
    searches_cause))

-- Elect may be armed
Seeking : ℕ → Past → Type 0
Seeking x past = CausesFit past.seen × (newest_is seeks_by past.seen ≡ true)

seeking_cause : Leads Seeking arms_elect Caused
unfolding arms_elect arms Seeking
seeking_cause = Leads_reading delay_at (arms Elect) (λ long. record { run = λ x past h. (inr h.0.1, h.0.0) })

search_cause : Leads Caused search_rings Caused
unfolding search_rings rings_or_late Seeking
search_cause = Leads_then {Q = Seeking} (either_by (is_in_time Search) (puts (Ring Search)) (puts (Late Search))) arms_elect
    (Leads_either (is_in_time Search) (puts (Ring Search)) (puts (Late Search))
    (Leads_to (λ x past h. (h.causes, h.is seeks_by)) (newest (Ring Search) (λ x past h. h.0) refl))
    (Leads_to (λ x past h. (h.causes, h.is seeks_by)) (newest (Late Search) (λ x past h. h.0) refl)))
    seeking_cause

-- a candidature

Stood : ℕ → Past → Type 0
Stood x past = CausesFit past.seen × (stands_now past.seen ≡ true)

BackedNow : ℕ → Past → Type 0
BackedNow x past = CausesFit past.seen × (backs_itself_now past.seen ≡ true)

backs_cause : Leads Stood backs_own BackedNow
unfolding backs_own Stood BackedNow
backs_cause = Leads_reading own_at (λ own. puts (Back own)) (λ own. Leads_puts (Back own) (λ x past h. ((inr tt, h.0.0), h.0.1)))

elections_cause : Leads Caused (begins_to_others Election) Caused
unfolding begins_to_others
elections_cause = Leads_reading others_at (for_each (begins Election)) (λ ps. Leads_from (λ x past h. h.0)
    (Leads_each (begins Election) ps (λ p. built_cause {sorts = Numbering ∷ []} refl refl (built_begins Election p tt refl refl))))

candidature_cause : Leads (Newest (Acts (Ring Elect))) candidature_row Caused
unfolding candidature_row Stood BackedNow arms
candidature_cause = Leads_then {Q = Stood} (puts (Become Candidate)) (backs_own followed_by (arms Window WINDOW followed_by begins_to_others Election))
    (Leads_puts (Become Candidate) (λ x past h. ((inr (h.is elects_by), h.causes), refl)))
    (Leads_then {Q = BackedNow} backs_own (arms Window WINDOW followed_by begins_to_others Election) backs_cause
    (Leads_then {Q = Caused} (arms Window WINDOW) (begins_to_others Election) (record { run = λ x past h. (inr h.1, h.0) }) elections_cause))

loosening_cause : Leads (Newest (Acts (Ring Elect))) loosens MaySearch
unfolding loosens MaySearch
loosening_cause = Leads_either follows_at (puts (Become Loose)) nothing
    (Leads_from (λ x past h. h.0) (Leads_to (λ x past h. (h.causes, h.is searches_by)) (loosens_cause {deed = Acts (Ring Elect)} refl)))
    (Leads_from (λ x past h. (h.0.causes, h.0.is searches_by)) Leads_nothing)

elect_cause : Leads Caused elect_rings Caused
unfolding elect_rings
elect_cause = Leads_either (is_in_time Elect) (puts (Ring Elect) followed_by either_by may_stand_at candidature_row (loosens followed_by searches))
    (puts (Late Elect) followed_by arms_elect)
    (Leads_then {Q = Newest (Acts (Ring Elect))} (puts (Ring Elect)) (either_by may_stand_at candidature_row (loosens followed_by searches))
    (newest (Ring Elect) (λ x past h. h.0) refl)
    (Leads_either may_stand_at candidature_row (loosens followed_by searches) (Leads_from (λ x past h. h.0) candidature_cause)
    (Leads_from (λ x past h. h.0) (Leads_then {Q = MaySearch} loosens searches loosening_cause searches_cause))))
    (Leads_then {Q = Newest (Acts (Late Elect))} (puts (Late Elect)) arms_elect (newest (Late Elect) (λ x past h. h.0) refl) (elects_cause refl))

leads_cause : Leads (Newest (Acts (Ring Window))) lead_row Caused
unfolding lead_row
leads_cause = Leads_then {Q = Caused} (puts (Become Master)) (arms Round ROUND followed_by posts_to_others MasterUp 0)
    (Leads_puts (Become Master) (λ x past h. (inr (h.is wins_by), h.causes)))
    (Leads_then {Q = Caused} (arms Round ROUND) (posts_to_others MasterUp 0) (free_arms Round ROUND (λ at. refl)) (to_others MasterUp refl))

window_cause : Leads Caused window_rings Caused
unfolding window_rings
window_cause = Leads_either (is_in_time Window) (puts (Ring Window) followed_by either_by has_won lead_row yields) (puts (Late Window) followed_by yields)
    (Leads_then {Q = Newest (Acts (Ring Window))} (puts (Ring Window)) (either_by has_won lead_row yields) (newest (Ring Window) (λ x past h. h.0) refl)
    (Leads_either has_won lead_row yields (Leads_from (λ x past h. h.0) leads_cause)
    (Leads_from (λ x past h. h.0) (yields_cause {deed = Acts (Ring Window)} refl))))
    (Leads_then {Q = Newest (Acts (Late Window))} (puts (Late Window)) yields (newest (Late Window) (λ x past h. h.0) refl) (yields_cause refl))

-- the other alarms

resolve_cause : Leads Caused resolve_rings Caused
unfolding resolve_rings quits_rivals
resolve_cause = Leads_either (is_in_time ResolveAlarm) (puts (Ring ResolveAlarm) followed_by reading rivals_at (for_each (begins QuitKind)))
    (puts (Late ResolveAlarm))
    (Leads_from (λ x past h. h.0) (Leads_then {Q = Caused} (puts (Ring ResolveAlarm)) (reading rivals_at (for_each (begins QuitKind)))
    (free_puts (Ring ResolveAlarm) refl)
    (Leads_reading rivals_at (for_each (begins QuitKind)) (λ ps. Leads_from (λ x past h. h.0)
    (Leads_each (begins QuitKind) ps (λ p. built_cause {sorts = Numbering ∷ []} refl refl (built_begins QuitKind p tt refl refl)))))))
    (Leads_from (λ x past h. h.0) (free_puts (Late ResolveAlarm) refl))

asks_cause : (p : PeerId) → Leads Caused (asks p) Caused
asks_cause p = built_cause {sorts = Asking ∷ []} refl refl (At (Asks p tt) refl)

round_cause : (wait : Bool) → Leads Caused (round_rings wait) Caused
unfolding round_rings begins_or_waits round_begins asks_slaves
round_cause wait = Leads_either (is_in_time Round) (puts (Ring Round) followed_by begins_or_waits wait) (puts (Late Round) followed_by arms Round ROUND)
    (Leads_from (λ x past h. h.0) (Leads_then {Q = Caused} (puts (Ring Round)) (begins_or_waits wait) (free_puts (Ring Round) refl) (by_wait wait)))
    (Leads_from (λ x past h. h.0) (Leads_then {Q = Caused} (puts (Late Round)) (arms Round ROUND) (free_puts (Late Round) refl)
    (free_arms Round ROUND (λ at. refl))))
  where
    by_wait : (b : Bool) → Leads Caused (begins_or_waits b) Caused
    by_wait true = free_arms Round WAIT (λ at. refl)
    by_wait false = Leads_then {Q = Caused} (arms Round ROUND) (arms Probe PROBE followed_by
        (arms CloseAlarm CLOSE followed_by (posts_to_others MasterUp 0 followed_by reading table_at (for_each asks)))) (free_arms Round ROUND (λ at. refl))
        (Leads_then {Q = Caused} (arms Probe PROBE) (arms CloseAlarm CLOSE followed_by (posts_to_others MasterUp 0 followed_by reading table_at
        (for_each asks))) (free_arms Probe PROBE (λ at. refl))
        (Leads_then {Q = Caused} (arms CloseAlarm CLOSE) (posts_to_others MasterUp 0 followed_by reading table_at (for_each asks))
        (free_arms CloseAlarm CLOSE (λ at. refl))
        (Leads_then {Q = Caused} (posts_to_others MasterUp 0) (reading table_at (for_each asks)) (to_others MasterUp refl)
        (Leads_reading table_at (for_each asks) (λ ps. Leads_from (λ x past h. h.0) (Leads_each asks ps asks_cause))))))

probe_cause : Leads Caused probe_rings Caused
unfolding probe_rings asks_measured arms_next abandons
probe_cause = Leads_either (is_in_time Probe) (puts (Ring Probe) followed_by (reading measured_at (for_each asks) followed_by either_by has_more
    (arms Probe PROBE) nothing)) (puts (Late Probe) followed_by puts Abandon)
    (Leads_from (λ x past h. h.0) (Leads_then {Q = Caused} (puts (Ring Probe)) (reading measured_at (for_each asks) followed_by either_by has_more
    (arms Probe PROBE) nothing) (free_puts (Ring Probe) refl)
    (Leads_then {Q = Caused} (reading measured_at (for_each asks)) (either_by has_more (arms Probe PROBE) nothing)
    (Leads_reading measured_at (for_each asks) (λ ps. Leads_from (λ x past h. h.0) (Leads_each asks ps asks_cause)))
    (Leads_either has_more (arms Probe PROBE) nothing (Leads_from (λ x past h. h.0) (free_arms Probe PROBE (λ at. refl)))
    (Leads_from (λ x past h. h.0) Leads_nothing)))))
    (Leads_from (λ x past h. h.0) (Leads_then {Q = Caused} (puts (Late Probe)) (puts Abandon) (free_puts (Late Probe) refl) (free_puts Abandon refl)))

moves_cause : (own : Bool) (mean : ℤ) → Leads Caused (moves own mean) Caused
unfolding moves
moves_cause true mean = emits_cause (Moving ∷ []) (adjusts mean) refl (Emits_adjusts mean refl)
moves_cause false mean = Leads_nothing

corrects_cause : (mean : ℤ) (p : PeerId) (best : Option Estimate) → Leads Caused (corrects_by mean p best) Caused
corrects_cause mean p best = built_cause {sorts = correct_sorts} refl refl (built_corrects_by mean p tt best (owed best)) where
  owed : (b : Option Estimate) → Corrects nothing_owed mean b
  owed None = tt
  owed (Some b) = (tt, λ e. tt)

closes_cause : (own : Bool) (g : Group) (round : List Standing) → Leads Caused (closes_with own g round) Caused
unfolding closes_with abandons corrects_peer
closes_cause own g round = Leads_either (can_adjust (mean_by own g)) (puts (close_act own g) followed_by
    (moves own (mean_by own g) followed_by for_each (λ s. corrects_by (mean_by own g) s.peer s.best) round)) (puts Abandon)
    (Leads_from (λ x past h. h.0) (Leads_then {Q = Caused} (puts (close_act own g))
    (moves own (mean_by own g) followed_by for_each (λ s. corrects_by (mean_by own g) s.peer s.best) round) (free_puts (close_act own g) refl)
    (Leads_then {Q = Caused} (moves own (mean_by own g)) (for_each (λ s. corrects_by (mean_by own g) s.peer s.best) round) (moves_cause own (mean_by own g))
    (Leads_each (λ (s : Standing). corrects_by (mean_by own g) s.peer s.best) round (λ s. corrects_cause (mean_by own g) s.peer s.best)))))
    (Leads_from (λ x past h. h.0) (free_puts Abandon refl))

close_cause : (own : Bool) → Leads Caused (close_rings own) Caused
unfolding close_rings closes abandons
close_cause own = Leads_either (is_in_time CloseAlarm) (reading round_at (λ round. puts (Ring CloseAlarm) followed_by closes_with own
    (group_of SPAN (estimates round)) round)) (puts (Late CloseAlarm) followed_by puts Abandon)
    (Leads_from (λ x past h. h.0) (Leads_reading round_at _ (λ round. Leads_from (λ x past h. h.0) (Leads_then {Q = Caused} (puts (Ring CloseAlarm))
    (closes_with own (group_of SPAN (estimates round)) round) (free_puts (Ring CloseAlarm) refl) (closes_cause own (group_of SPAN (estimates round))
    round)))))
    (Leads_from (λ x past h. h.0) (Leads_then {Q = Caused} (puts (Late CloseAlarm)) (puts Abandon) (free_puts (Late CloseAlarm) refl) (free_puts Abandon refl)))

alarm_cause : (own wait : Bool) (a : Alarm) → Leads Caused (alarm_rings own wait a) Caused
unfolding alarm_rings
alarm_cause own wait Quiet = quiet_cause
alarm_cause own wait Search = search_cause
alarm_cause own wait Elect = elect_cause
alarm_cause own wait Window = window_cause
alarm_cause own wait Probe = probe_cause
alarm_cause own wait CloseAlarm = close_cause own
alarm_cause own wait ResolveAlarm = resolve_cause
alarm_cause own wait Round = round_cause wait

pub rings_cause : (own wait : Bool) (a : Alarm) → Leads Caused (rings own wait a) Caused
unfolding rings
rings_cause own wait a = Leads_either (is_due a) (alarm_rings own wait a) nothing (Leads_from (λ x past h. h.0) (alarm_cause own wait a))
    (Leads_from (λ x past h. h.0) Leads_nothing)
