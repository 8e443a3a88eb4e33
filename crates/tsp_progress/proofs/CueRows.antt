-- Each row answers one cue: an act on an alarm, or a datagram that is taken. After it no other cue comes.
use Rattle.std.proofs.Common.{sym, true≢false, ◌∙◌, ◌≡◌, ◌==◌, ℕ, ℤ, Bool, true, false, if◌then◌else◌, List, [], ◌∷◌, ◌++◌}
use Rattle.std.proofs.Common.{refl, map}
use Rattle.tsp_rules.specs.Values.{Act, Took, Become, Ring, Late, Back, Quit, Acked, Alarm, Search, Elect, Window, Probe, CloseAlarm}
use Rattle.tsp_rules.specs.Values.{ResolveAlarm, PeerId, Place, Peer, Stranger, Role, Starting, Loose, Follow, Candidate, Master, Kind, Accept, Ack}
use Rattle.tsp_rules.specs.Values.{AdjTime, Conflict, Date, DateAck, DateReq, Election, LoopKind, MasterAck, MasterReq, MasterUp, Msite, MsiteReq, QuitKind}
use Rattle.tsp_rules.specs.Values.{Refuse, ResolveKind, SetDate, SetDateReq, SetTime, SlaveUp, Test, TraceOff, TraceOn, Taken, Good, Bad, Message, Stamp, Port}
use Rattle.tsp_rules.specs.Values.{Request, Reply, WINDOW}
use Rattle.tsp_base.specs.Words.{MessageValue, Past, Row, arms, either_by, for_each, grown, nothing, posts, posts_back, posts_to_others, puts}
use Rattle.tsp_base.specs.Words.{reading, time_in, ◌followed_by◌, others}
use Rattle.tsp_rules.specs.CandidateRows.{candidate_takes, candidate_takes_kind, refused_by, yields}
use Rattle.tsp_rules.specs.CommonRows.{arms_elect, backs_own, candidature_row, follow_row, follows_unless, is_awake, may_be_asked, own_at, quits, searches}
use Rattle.tsp_rules.specs.CommonRows.{tells_ticket, tests}
use Rattle.tsp_rules.specs.SlaveRows.{reports_conflict, masterup_in, masterack_in, election_of}
use Rattle.tsp_rules.specs.SlaveRows.{acks_repeat, confirms, adjtime_of, settime_of, from_master, slave_takes, slave_takes_kind, takes_amount, takes_value}
use Rattle.tsp_rules.specs.{MasterRows.master_takes, MasterRows.master_takes_kind, ResolveRows.resolves}
use Rattle.tsp_rules.specs.{ClockRows.adjusts, ClockRows.sets, DateRows.date_request_of, DateRows.date_acked}
use Rattle.tsp_rules.specs.Guards.{delay_at, role_at, is_heard, is_armed, is_master_at, may_back_at}
use Rattle.tsp_rules.specs.Guards.{ticket_at}
use Rattle.tsp_rules.specs.GateRows.{loosens_master, repost, reposts, sends_loops}
use Rattle.tsp_rules.specs.SendRows.{acknowledges, begins, begins_to_others, due_sends, has_election, others_at}
use Rattle.tsp_rules.specs.Answers.{says_in, peer_says, peer_replies, from_peer, handles_kind, handles, is_left}
use Rattle.tsp_rules.proofs.Emits.{Sort, Taking, Posting, Numbering, Acking, Moving, Tracing, Sampling, Counting, Correcting}
use Rattle.tsp_rules.proofs.Emits.{Tabling, Rivalling, AllOf, Emits, is_in, is_part, sort_of, sort_of_kind, Emits_adjusts, Emits_posts, Emits_posts_back}
use Rattle.tsp_rules.proofs.Emits.{Emits_posts_to_others, Emits_sets}
use Rattle.tsp_rules.proofs.{EmitsBuilt.emits_built, EmitsBuilt.nothing_owed, Unchanged.place_unchanged, Unchanged.unchanged, Built.Built}
use Rattle.tsp_rules.proofs.{BuiltGate.built_sends_loops}
use Rattle.tsp_rules.proofs.BuiltShared.{built_acknowledges, built_begins, built_names_master, built_says_master, built_traces, built_replies}
use Rattle.tsp_rules.proofs.BuiltAnswers.{date_sorts, built_date_of, built_date_request_of, built_date_acked, built_peer_replies}
use Rattle.tsp_rules.proofs.{BuiltRoles.built_accepted_by, BuiltRoles.built_joins, BuiltRoles.built_sends_away, BuiltRoles.built_finds_rival}
use Rattle.tsp_rules.proofs.{BuiltSends.built_due_sends, BuiltSends.send_sorts}
use Rattle.tsp_progress.proofs.{PortWakes.no_near, PortWakes.out_of, Waking.near_sorts}

-- what a row answers: an alarm that goes off, and a datagram that is taken
abbrev pub is_cue : Act → Bool
is_cue (Ring a) = true
is_cue (Late a) = true
is_cue (Took from t) = true
is_cue _ = false

-- none of these acts is a cue
abbrev pub Uncued : List Act → Type 0
Uncued [] = Unit {0}
Uncued (a ∷ rest) = (is_cue a ≡ false) × Uncued rest

pub uncued_append : (xs ys : List Act) → Uncued xs → Uncued ys → Uncued (xs ++ ys)
uncued_append [] ys p q = q
uncued_append (a ∷ xs) ys p q = (p.0, uncued_append xs ys p.1 q)

-- a row without cues
pub record Plain (row : Row) : Type 0 where
  pub run : (x : ℕ) (past : Past) → Uncued (row x past)

pub Plain_nothing : Plain nothing
unfolding nothing
Plain_nothing = record { run = λ x past. tt }

pub Plain_puts : (a : Act) → is_cue a ≡ false → Plain (puts a)
unfolding puts
Plain_puts a e = record { run = λ x past. (e, tt) }

pub Plain_arms : (a : Alarm) (long : ℕ) → Plain (arms a long)
unfolding arms
Plain_arms a long = record { run = λ x past. (refl, tt) }

pub Plain_then : (r s : Row) → Plain r → Plain s → Plain (r followed_by s)
unfolding ◌followed_by◌
Plain_then r s p q = record { run = λ x past. uncued_append (r x past) (s x (grown x past (r x past))) (p.run x past) (q.run x (grown x past (r x past))) }

pub Plain_either : (test : ℕ → Past → Bool) (r s : Row) → Plain r → Plain s → Plain (either_by test r s)
unfolding either_by
Plain_either test r s p q = record {
  run = λ x past. elim (test x past) as (λ b. Uncued (if b then r x past else s x past)) [
    | true ↦ p.run x past
    | false ↦ q.run x past
  ];
}

pub Plain_if : (b : Bool) (r s : Row) → Plain r → Plain s → Plain (if b then r else s)
Plain_if true r s p q = p
Plain_if false r s p q = q

pub Plain_reading : {A : Type 0} (fact : ℕ → Past → A) (rows : A → Row) → ((a : A) → Plain (rows a)) → Plain (reading fact rows)
unfolding reading
Plain_reading fact rows k = record { run = λ x past. (k (fact x past)).run x past }

pub Plain_each : {A : Type 0} (r : A → Row) (ps : List A) → ((p : A) → Plain (r p)) → Plain (for_each r ps)
unfolding for_each
Plain_each r [] k = Plain_nothing
Plain_each r (p ∷ ps) k = Plain_then (r p) (for_each r ps) (k p) (Plain_each r ps k)

-- rows of sorts that have no cues

ring_sort : (a : Alarm) → is_in (sort_of (Ring a)) near_sorts ≡ false → ⊥
ring_sort Probe e = true≢false e
ring_sort CloseAlarm e = true≢false e
ring_sort _ e = true≢false e

sort_cue : (sorts : List Sort) → no_near sorts ≡ true → is_in Taking sorts ≡ false → (a : Act) → is_in (sort_of a) sorts ≡ true → is_cue a ≡ false
sort_cue sorts apart none (Ring a) e = absurd (ring_sort a (out_of sorts apart (sort_of (Ring a)) e))
sort_cue sorts apart none (Late a) e = absurd (ring_sort a (out_of sorts apart (sort_of (Late a)) e))
sort_cue sorts apart none (Took from t) e = absurd (true≢false (sym e ∙ none))
sort_cue sorts apart none _ e = refl

all_uncued : (sorts : List Sort) → no_near sorts ≡ true → is_in Taking sorts ≡ false → (acts : List Act) → AllOf sorts acts → Uncued acts
all_uncued sorts apart none [] h = tt
all_uncued sorts apart none (a ∷ rest) h = (sort_cue sorts apart none a h.0, all_uncued sorts apart none rest h.1)

pub emit : (sorts : List Sort) (row : Row) → no_near sorts ≡ true → is_in Taking sorts ≡ false → Emits sorts row → Plain row
emit sorts row apart none e = record { run = λ x past. all_uncued sorts apart none (row x past) (e.only x past) }

pub calm : {sorts : List Sort} {k c : ℕ} {r r' : Row} → is_part sorts sorts ≡ true → no_near sorts ≡ true → is_in Taking sorts ≡ false →
    Built unchanged nothing_owed sorts k c r r' → Plain r
calm {sorts} {r = r} own apart none d = emit sorts r apart none (emits_built own d)

pub to_others : (kind : Kind) → is_in (sort_of_kind kind) (Posting ∷ Numbering ∷ []) ≡ true → Plain (posts_to_others kind 0)
to_others kind e = emit (Posting ∷ Numbering ∷ []) (posts_to_others kind 0) refl refl (Emits_posts_to_others kind 0 e)

post : (p : PeerId) (kind : Kind) (number : ℕ) → is_in (sort_of_kind kind) (Posting ∷ Numbering ∷ []) ≡ true → Plain (posts p kind number)
post p kind number e = emit (Posting ∷ Numbering ∷ []) (posts p kind number) refl refl (Emits_posts p kind number e)

-- what rows are made of

pub elects : Plain arms_elect
unfolding arms_elect
elects = Plain_reading delay_at (arms Elect) (λ long. Plain_arms Elect long)

tells : (p : PeerId) → Plain (tells_ticket p)
unfolding tells_ticket
tells p = Plain_reading ticket_at (posts p SlaveUp) (λ n. post p SlaveUp n refl)

follow : (p : PeerId) → Plain (follow_row p)
unfolding follow_row
follow p = Plain_then (puts (Become (Follow p))) (arms_elect followed_by tells_ticket p) (Plain_puts (Become (Follow p)) refl)
    (Plain_then arms_elect (tells_ticket p) elects (tells p))

pub search : Plain searches
unfolding searches
search = Plain_then (arms Search WINDOW) (posts_to_others MasterReq 0) (Plain_arms Search WINDOW) (to_others MasterReq refl)

unless : (p : PeerId) (r : Role) → Plain (follows_unless p r)
unfolding follows_unless
unless p (Follow q) = Plain_nothing
unless p _ = follow p

quit : (p : PeerId) (number : ℕ) → Plain (quits p number)
unfolding quits
quit p number = Plain_then (puts (Quit p)) (posts p Ack number followed_by reading role_at (follows_unless p)) (Plain_puts (Quit p) refl)
    (Plain_then (posts p Ack number) (reading role_at (follows_unless p)) (post p Ack number refl) (Plain_reading role_at (follows_unless p) (unless p)))

pub candidature : Plain candidature_row
unfolding candidature_row backs_own begins_to_others
candidature = Plain_then (puts (Become Candidate)) (backs_own followed_by (arms Window WINDOW followed_by begins_to_others Election))
    (Plain_puts (Become Candidate) refl)
    (Plain_then backs_own (arms Window WINDOW followed_by begins_to_others Election)
    (Plain_reading own_at (λ own. puts (Back own)) (λ own. Plain_puts (Back own) refl))
    (Plain_then (arms Window WINDOW) (begins_to_others Election) (Plain_arms Window WINDOW)
    (Plain_reading others_at (for_each (begins Election)) (λ ps. Plain_each (begins Election) ps (λ p. calm {sorts = Numbering ∷ []} refl refl refl
    (built_begins Election p tt refl refl))))))

acked : (p : PeerId) (number : ℕ) → Plain (acknowledges p number)
acked p number = calm {sorts = Acking ∷ []} refl refl refl (built_acknowledges p number tt)

-- a port that is Loose or follows

conflict : (q : PeerId) → Plain (reports_conflict q)
unfolding reports_conflict
conflict q = Plain_either _ (begins Conflict q) nothing (calm {sorts = Numbering ∷ []} refl refl refl (built_begins Conflict q tt refl refl)) Plain_nothing

masterup : (p : PeerId) (r : Role) → Plain (masterup_in p r)
unfolding masterup_in
masterup p Loose = follow p
masterup p (Follow q) = Plain_if (q.0 == p.0) _ _ (Plain_then arms_elect (tells_ticket p) elects (tells p)) (conflict q)
masterup p _ = Plain_nothing

masterack : (p : PeerId) (r : Role) → Plain (masterack_in p r)
unfolding masterack_in
masterack p Loose = Plain_either (is_armed Search) (follow_row p) nothing (follow p) Plain_nothing
masterack p (Follow q) = Plain_if (q.0 == p.0) _ _ Plain_nothing (conflict q)
masterack p _ = Plain_nothing

election : (p : PeerId) (number : ℕ) → Plain (election_of p number)
unfolding election_of
election p number = Plain_either (may_back_at p) (puts (Back p) followed_by (arms_elect followed_by posts p Accept number)) (posts p Refuse number)
    (Plain_then (puts (Back p)) (arms_elect followed_by posts p Accept number) (Plain_puts (Back p) refl)
    (Plain_then arms_elect (posts p Accept number) elects (post p Accept number refl)))
    (post p Refuse number refl)

confirm : (p : PeerId) (number : ℕ) → Plain (confirms p number)
unfolding confirms
confirm p number = Plain_then arms_elect (posts p Ack number) elects (post p Ack number refl)

repeat : (p : PeerId) (number : ℕ) → Plain (acks_repeat p number)
unfolding acks_repeat
repeat p number = Plain_either _ (posts p Ack number) nothing (post p Ack number refl) Plain_nothing

adjtime : (p : PeerId) (number : ℕ) (amount : ℤ) → Plain (adjtime_of p number amount)
unfolding adjtime_of
adjtime p number amount = Plain_either (takes_amount number amount) (adjusts amount followed_by confirms p number) (acks_repeat p number)
    (Plain_then (adjusts amount) (confirms p number) (emit (Moving ∷ []) (adjusts amount) refl refl (Emits_adjusts amount refl)) (confirm p number))
    (repeat p number)

settime : (p : PeerId) (number : ℕ) (value : ℤ) → Plain (settime_of p number value)
unfolding settime_of
settime p number value = Plain_either (takes_value number value) (sets value followed_by confirms p number) (acks_repeat p number)
    (Plain_then (sets value) (confirms p number) (emit (Moving ∷ []) (sets value) refl refl (Emits_sets value refl)) (confirm p number))
    (repeat p number)

from : (p : PeerId) (row : Row) (r : Role) → Plain row → Plain (from_master p row r)
unfolding from_master
from p row (Follow q) d = Plain_if (q.0 == p.0) row nothing d Plain_nothing
from p row _ d = Plain_nothing

slave : (p : PeerId) (m : MessageValue) (k : Kind) → Plain (slave_takes_kind p m k)
unfolding slave_takes_kind
slave p m MasterUp = Plain_reading role_at (masterup_in p) (masterup p)
slave p m MasterAck = Plain_reading role_at (masterack_in p) (masterack p)
slave p m Election = election p m.number
slave p m AdjTime = Plain_reading role_at _ (λ r. from p (adjtime_of p m.number (time_in m.body)) r (adjtime p m.number (time_in m.body)))
slave p m SetTime = Plain_reading role_at _ (λ r. from p (settime_of p m.number (time_in m.body)) r (settime p m.number (time_in m.body)))
slave p m QuitKind = quit p m.number
slave p m Ack = acked p m.number
slave p m _ = Plain_nothing

-- a candidate

pub yield : Plain yields
unfolding yields
yield = Plain_then (puts (Become Loose)) arms_elect (Plain_puts (Become Loose) refl) elects

refused : (p : PeerId) (number : ℕ) → Plain (refused_by p number)
unfolding refused_by
refused p number = Plain_either (has_election p number) (puts (Acked p) followed_by yields) nothing
    (Plain_then (puts (Acked p)) yields (Plain_puts (Acked p) refl) yield) Plain_nothing

candidate : (p : PeerId) (m : MessageValue) (k : Kind) → Plain (candidate_takes_kind p m k)
unfolding candidate_takes_kind
candidate p m MasterUp = follow p
candidate p m MasterAck = follow p
candidate p m Election = post p Refuse m.number refl
candidate p m Accept = calm {sorts = Acking ∷ Counting ∷ []} refl refl refl (built_accepted_by p m.number tt)
candidate p m Refuse = refused p m.number
candidate p m QuitKind = quit p m.number
candidate p m Ack = acked p m.number
candidate p m _ = Plain_nothing

-- a master

resolve : Plain resolves
unfolding resolves
resolve = Plain_either (is_armed ResolveAlarm) nothing (arms ResolveAlarm WINDOW followed_by posts_to_others ResolveKind 0) Plain_nothing
    (Plain_then (arms ResolveAlarm WINDOW) (posts_to_others ResolveKind 0) (Plain_arms ResolveAlarm WINDOW) (to_others ResolveKind refl))

master : (p : PeerId) (m : MessageValue) (k : Kind) → Plain (master_takes_kind p m k)
unfolding master_takes_kind
master p m MasterReq = post p MasterAck m.number refl
master p m ResolveKind = post p MasterAck m.number refl
master p m SlaveUp = calm {sorts = Correcting ∷ Tabling ∷ []} refl refl refl (built_joins p m.number tt tt)
master p m Election = calm {sorts = Numbering ∷ []} refl refl refl (built_sends_away p tt)
master p m MasterUp = resolve
master p m Conflict = Plain_then (posts p Ack m.number) resolves (post p Ack m.number refl) resolve
master p m MasterAck = calm {sorts = Rivalling ∷ []} refl refl refl (built_finds_rival p tt)
master p m QuitKind = quit p m.number
master p m Ack = acked p m.number
master p m _ = Plain_nothing

-- whatever was taken

test : (from : Place) (number : ℕ) → Plain (tests from number)
unfolding tests
test from number = Plain_either is_awake (posts_back from Ack number followed_by either_by may_be_asked candidature_row nothing) nothing
    (Plain_then (posts_back from Ack number) (either_by may_be_asked candidature_row nothing)
    (emit (Posting ∷ []) (posts_back from Ack number) refl refl (Emits_posts_back from Ack number refl))
    (Plain_either may_be_asked candidature_row nothing candidature Plain_nothing))
    Plain_nothing

says : (p : PeerId) (m : MessageValue) (r : Role) → Plain (says_in p m r)
unfolding says_in slave_takes candidate_takes master_takes
says p m Starting = Plain_nothing
says p m Candidate = candidate p m m.kind
says p m Master = master p m m.kind
says p m _ = slave p m m.kind

peer : (from : Place) (row : PeerId → Row) → ((p : PeerId) → Plain (row p)) → Plain (from_peer from row)
unfolding from_peer
peer (Peer p) row d = Plain_either (is_heard p) (row p) nothing (d p) Plain_nothing
peer Stranger row d = Plain_nothing

peer_says_holds : (m : MessageValue) (p : PeerId) → Plain (peer_says m p)
unfolding peer_says
peer_says_holds m p = Plain_reading role_at (says_in p m) (says p m)

kind : (charge : Bool) (from : Place) (m : MessageValue) (k : Kind) → Plain (handles_kind charge from m k)
unfolding handles_kind
kind charge from m Msite = calm {sorts = Posting ∷ []} refl refl refl (built_names_master from m.number (place_unchanged from) tt tt)
kind charge from m MsiteReq = calm {sorts = Posting ∷ []} refl refl refl (built_says_master from m.number (place_unchanged from) tt tt)
kind charge from m TraceOn = calm {sorts = Tracing ∷ Posting ∷ []} refl refl refl (built_traces from m.number (place_unchanged from) tt tt true)
kind charge from m TraceOff = calm {sorts = Tracing ∷ Posting ∷ []} refl refl refl (built_traces from m.number (place_unchanged from) tt tt false)
kind charge from m Test = test from m.number
kind charge from m Date = calm {sorts = date_sorts} refl refl refl (built_date_of charge m tt tt from (place_unchanged from) tt)
kind charge from m SetDate = calm {sorts = date_sorts} refl refl refl (built_date_of charge m tt tt from (place_unchanged from) tt)
kind charge from m DateReq = peer from (date_request_of charge m) (λ p. calm {sorts = date_sorts} refl refl refl
    (built_date_request_of charge m tt tt p tt))
kind charge from m SetDateReq = peer from (date_request_of charge m) (λ p. calm {sorts = date_sorts} refl refl refl
    (built_date_request_of charge m tt tt p tt))
kind charge from m DateAck = peer from (date_acked m) (λ p. calm {sorts = Acking ∷ []} refl refl refl (built_date_acked m p tt))
kind charge from m LoopKind = Plain_nothing
kind charge from m _ = peer from (peer_says m) (peer_says_holds m)

pub handled : (steer charge : Bool) (from : Place) (t : Taken) → Plain (handles steer charge from t)
unfolding handles
handled steer charge from (Bad fault) = Plain_nothing
handled steer charge from (Good (Message m)) = Plain_either (is_left steer m.kind) nothing (handles_kind charge from m m.kind) Plain_nothing
    (kind charge from m m.kind)
handled steer charge from (Good (Stamp (Request word counter))) = calm {sorts = Posting ∷ []} refl refl refl
    (built_replies from word counter (place_unchanged from) tt tt)
handled steer charge from (Good (Stamp (Reply r))) = peer from (peer_replies r) (λ p. calm {sorts = Sampling ∷ []} refl refl refl
    (built_peer_replies r p tt tt))

pub loosened : Plain loosens_master
unfolding loosens_master
loosened = Plain_either is_master_at yields nothing yield Plain_nothing

pub looped : (q : Port) → Plain (sends_loops q)
looped q = calm {sorts = Posting ∷ []} refl refl refl (built_sends_loops q tt)

pub reposted : (m : MessageValue) → Plain (reposts m)
unfolding reposts
reposted m = record { run = λ x past. each (others past.own past.peers) } where
  each : (ps : List PeerId) → Uncued (map (repost m) ps)
  each [] = tt
  each (p ∷ ps) = (refl, each ps)

pub repeated : Plain due_sends
repeated = calm {sorts = send_sorts} refl refl refl built_due_sends
