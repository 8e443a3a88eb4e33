-- Resolve is armed by what a master takes alone, when it isn't armed, and then each other peer is asked who else is master.
use Rattle.std.proofs.Common.{sym, true≢false, ◌∙◌, ◌≡◌, ◌==◌, ℕ, ℤ, Bool, true, false, if◌then◌else◌, List, [], ◌∷◌, ◌++◌}
use Rattle.std.proofs.Common.{refl, map, ap, ◌⊎◌, inl, inr, ◌+◌}
use Rattle.tsp_rules.specs.Values.{Act, Took, Become, Back, Quit, Acked, Arm, Alarm, Search, Elect, Window}
use Rattle.tsp_rules.specs.Values.{ResolveAlarm, PeerId, Place, Peer, Stranger, Role, Starting, Loose, Follow, Candidate, Master, Kind, Accept, Ack}
use Rattle.tsp_rules.specs.Values.{AdjTime, Conflict, Date, DateAck, DateReq, Election, LoopKind, MasterAck, MasterReq, MasterUp, Msite, MsiteReq, QuitKind}
use Rattle.tsp_rules.specs.Values.{Refuse, ResolveKind, SetDate, SetDateReq, SetTime, SlaveUp, Test, TraceOff, TraceOn, Taken, Good, Bad, Message, Stamp, Port}
use Rattle.tsp_rules.specs.Values.{Request, Reply, WINDOW}
use Rattle.tsp_base.specs.Words.{MessageValue, Past, Row, arms, either_by, for_each, grown, nothing, posts, posts_back, posts_to_others, puts}
use Rattle.tsp_base.specs.Words.{reading, time_in, ◌followed_by◌, others, post_of}
use Rattle.tsp_rules.specs.CandidateRows.{candidate_takes, candidate_takes_kind, refused_by, yields}
use Rattle.tsp_rules.specs.CommonRows.{arms_elect, backs_own, candidature_row, follow_row, follows_unless, is_awake, may_be_asked, own_at, quits, searches}
use Rattle.tsp_rules.specs.CommonRows.{tells_ticket, tests}
use Rattle.tsp_rules.specs.SlaveRows.{reports_conflict, masterup_in, masterack_in, election_of}
use Rattle.tsp_rules.specs.SlaveRows.{acks_repeat, confirms, adjtime_of, settime_of, from_master, slave_takes, slave_takes_kind, takes_amount, takes_value}
use Rattle.tsp_rules.specs.{MasterRows.master_takes, MasterRows.master_takes_kind, ResolveRows.resolves}
use Rattle.tsp_rules.specs.{ClockRows.adjusts, ClockRows.sets, DateRows.date_request_of, DateRows.date_acked}
use Rattle.tsp_rules.specs.Guards.{delay_at, role_at, is_heard, is_armed, is_master_at, may_back_at}
use Rattle.tsp_rules.specs.Guards.{ticket_at, is_own}
use Rattle.tsp_rules.specs.GateRows.{loosens_master, repost, reposts, sends_loops}
use Rattle.tsp_rules.specs.SendRows.{acknowledges, begins, begins_to_others, due_sends, has_election, others_at}
use Rattle.tsp_rules.specs.Answers.{says_in, peer_says, peer_replies, from_peer, handles_kind, handles, is_left, takes}
use Rattle.tsp_rules.proofs.Emits.{Sort, Alarming, Posting, Numbering, Acking, Moving, Tracing, Sampling, Counting, Correcting}
use Rattle.tsp_rules.proofs.Emits.{Tabling, Rivalling, AllOf, Emits, is_in, is_part, sort_of, sort_of_kind, Emits_adjusts, Emits_posts, Emits_posts_back}
use Rattle.tsp_rules.proofs.Emits.{Emits_posts_to_others, Emits_sets}
use Rattle.tsp_rules.proofs.{EmitsBuilt.emits_built, EmitsBuilt.nothing_owed, Unchanged.place_unchanged, Unchanged.unchanged, Built.Built}
use Rattle.tsp_rules.proofs.{BuiltGate.built_sends_loops}
use Rattle.tsp_rules.proofs.BuiltShared.{built_acknowledges, built_begins, built_names_master, built_says_master, built_traces, built_replies}
use Rattle.tsp_rules.proofs.BuiltAnswers.{date_sorts, built_date_of, built_date_request_of, built_date_acked, built_peer_replies}
use Rattle.tsp_rules.proofs.{BuiltRoles.built_accepted_by, BuiltRoles.built_joins, BuiltRoles.built_sends_away, BuiltRoles.built_finds_rival}
use Rattle.tsp_rules.proofs.{BuiltSends.built_due_sends, BuiltSends.send_sorts}
use Rattle.tsp_progress.specs.Resolving.{resolve_acts}

-- whether an act arms Resolve
abbrev pub arms_resolve : Act → Bool
arms_resolve (Arm ResolveAlarm at) = true
arms_resolve _ = false

-- none of these acts does
abbrev pub Unasked : List Act → Type 0
Unasked [] = Unit {0}
Unasked (a ∷ rest) = (arms_resolve a ≡ false) × Unasked rest

pub unasked_append : (xs ys : List Act) → Unasked xs → Unasked ys → Unasked (xs ++ ys)
unasked_append [] ys p q = q
unasked_append (a ∷ xs) ys p q = (p.0, unasked_append xs ys p.1 q)

-- a row without such acts
pub record Clear (row : Row) : Type 0 where
  pub run : (x : ℕ) (past : Past) → Unasked (row x past)

pub Clear_nothing : Clear nothing
unfolding nothing
Clear_nothing = record { run = λ x past. tt }

pub Clear_puts : (a : Act) → arms_resolve a ≡ false → Clear (puts a)
unfolding puts
Clear_puts a e = record { run = λ x past. (e, tt) }

pub Clear_arms : (a : Alarm) (long : ℕ) → ((at : ℕ) → arms_resolve (Arm a at) ≡ false) → Clear (arms a long)
unfolding arms
Clear_arms a long k = record { run = λ x past. (k (x + long), tt) }

pub Clear_then : (r s : Row) → Clear r → Clear s → Clear (r followed_by s)
unfolding ◌followed_by◌
Clear_then r s p q = record { run = λ x past. unasked_append (r x past) (s x (grown x past (r x past))) (p.run x past) (q.run x (grown x past (r x past))) }

pub Clear_either : (test : ℕ → Past → Bool) (r s : Row) → Clear r → Clear s → Clear (either_by test r s)
unfolding either_by
Clear_either test r s p q = record {
  run = λ x past. elim (test x past) as (λ b. Unasked (if b then r x past else s x past)) [
    | true ↦ p.run x past
    | false ↦ q.run x past
  ];
}

pub Clear_if : (b : Bool) (r s : Row) → Clear r → Clear s → Clear (if b then r else s)
Clear_if true r s p q = p
Clear_if false r s p q = q

pub Clear_reading : {A : Type 0} (fact : ℕ → Past → A) (rows : A → Row) → ((a : A) → Clear (rows a)) → Clear (reading fact rows)
unfolding reading
Clear_reading fact rows k = record { run = λ x past. (k (fact x past)).run x past }

pub Clear_each : {A : Type 0} (r : A → Row) (ps : List A) → ((p : A) → Clear (r p)) → Clear (for_each r ps)
unfolding for_each
Clear_each r [] k = Clear_nothing
Clear_each r (p ∷ ps) k = Clear_then (r p) (for_each r ps) (k p) (Clear_each r ps k)

-- rows of sorts that arm no such alarm

sort_free : (sorts : List Sort) → is_in Alarming sorts ≡ false → (a : Act) → is_in (sort_of a) sorts ≡ true → arms_resolve a ≡ false
sort_free sorts none (Arm ResolveAlarm at) e = absurd (true≢false (sym e ∙ none))
sort_free sorts none (Arm _ at) e = refl
sort_free sorts none _ e = refl

all_unasked : (sorts : List Sort) → is_in Alarming sorts ≡ false → (acts : List Act) → AllOf sorts acts → Unasked acts
all_unasked sorts none [] h = tt
all_unasked sorts none (a ∷ rest) h = (sort_free sorts none a h.0, all_unasked sorts none rest h.1)

pub emit : (sorts : List Sort) (row : Row) → is_in Alarming sorts ≡ false → Emits sorts row → Clear row
emit sorts row none e = record { run = λ x past. all_unasked sorts none (row x past) (e.only x past) }

pub calm : {sorts : List Sort} {k c : ℕ} {r r' : Row} → is_part sorts sorts ≡ true → is_in Alarming sorts ≡ false →
    Built unchanged nothing_owed sorts k c r r' → Clear r
calm {sorts} {r = r} own none d = emit sorts r none (emits_built own d)

pub to_others : (kind : Kind) → is_in (sort_of_kind kind) (Posting ∷ Numbering ∷ []) ≡ true → Clear (posts_to_others kind 0)
to_others kind e = emit (Posting ∷ Numbering ∷ []) (posts_to_others kind 0) refl (Emits_posts_to_others kind 0 e)

post : (p : PeerId) (kind : Kind) (number : ℕ) → is_in (sort_of_kind kind) (Posting ∷ Numbering ∷ []) ≡ true → Clear (posts p kind number)
post p kind number e = emit (Posting ∷ Numbering ∷ []) (posts p kind number) refl (Emits_posts p kind number e)

-- what rows are made of

pub elects : Clear arms_elect
unfolding arms_elect
elects = Clear_reading delay_at (arms Elect) (λ long. Clear_arms Elect long (λ at. refl))

tells : (p : PeerId) → Clear (tells_ticket p)
unfolding tells_ticket
tells p = Clear_reading ticket_at (posts p SlaveUp) (λ n. post p SlaveUp n refl)

follow : (p : PeerId) → Clear (follow_row p)
unfolding follow_row
follow p = Clear_then (puts (Become (Follow p))) (arms_elect followed_by tells_ticket p) (Clear_puts (Become (Follow p)) refl)
    (Clear_then arms_elect (tells_ticket p) elects (tells p))

pub search : Clear searches
unfolding searches
search = Clear_then (arms Search WINDOW) (posts_to_others MasterReq 0) (Clear_arms Search WINDOW (λ at. refl)) (to_others MasterReq refl)

unless : (p : PeerId) (r : Role) → Clear (follows_unless p r)
unfolding follows_unless
unless p (Follow q) = Clear_nothing
unless p _ = follow p

quit : (p : PeerId) (number : ℕ) → Clear (quits p number)
unfolding quits
quit p number = Clear_then (puts (Quit p)) (posts p Ack number followed_by reading role_at (follows_unless p)) (Clear_puts (Quit p) refl)
    (Clear_then (posts p Ack number) (reading role_at (follows_unless p)) (post p Ack number refl) (Clear_reading role_at (follows_unless p) (unless p)))

pub candidature : Clear candidature_row
unfolding candidature_row backs_own begins_to_others
candidature = Clear_then (puts (Become Candidate)) (backs_own followed_by (arms Window WINDOW followed_by begins_to_others Election))
    (Clear_puts (Become Candidate) refl)
    (Clear_then backs_own (arms Window WINDOW followed_by begins_to_others Election)
    (Clear_reading own_at (λ own. puts (Back own)) (λ own. Clear_puts (Back own) refl))
    (Clear_then (arms Window WINDOW) (begins_to_others Election) (Clear_arms Window WINDOW (λ at. refl))
    (Clear_reading others_at (for_each (begins Election)) (λ ps. Clear_each (begins Election) ps (λ p. calm {sorts = Numbering ∷ []} refl refl
    (built_begins Election p tt refl refl))))))

acked : (p : PeerId) (number : ℕ) → Clear (acknowledges p number)
acked p number = calm {sorts = Acking ∷ []} refl refl (built_acknowledges p number tt)

-- a port that is Loose or follows

conflict : (q : PeerId) → Clear (reports_conflict q)
unfolding reports_conflict
conflict q = Clear_either _ (begins Conflict q) nothing (calm {sorts = Numbering ∷ []} refl refl (built_begins Conflict q tt refl refl)) Clear_nothing

masterup : (p : PeerId) (r : Role) → Clear (masterup_in p r)
unfolding masterup_in
masterup p Loose = follow p
masterup p (Follow q) = Clear_if (q.0 == p.0) _ _ (Clear_then arms_elect (tells_ticket p) elects (tells p)) (conflict q)
masterup p _ = Clear_nothing

masterack : (p : PeerId) (r : Role) → Clear (masterack_in p r)
unfolding masterack_in
masterack p Loose = Clear_either (is_armed Search) (follow_row p) nothing (follow p) Clear_nothing
masterack p (Follow q) = Clear_if (q.0 == p.0) _ _ Clear_nothing (conflict q)
masterack p _ = Clear_nothing

election : (p : PeerId) (number : ℕ) → Clear (election_of p number)
unfolding election_of
election p number = Clear_either (may_back_at p) (puts (Back p) followed_by (arms_elect followed_by posts p Accept number)) (posts p Refuse number)
    (Clear_then (puts (Back p)) (arms_elect followed_by posts p Accept number) (Clear_puts (Back p) refl)
    (Clear_then arms_elect (posts p Accept number) elects (post p Accept number refl)))
    (post p Refuse number refl)

confirm : (p : PeerId) (number : ℕ) → Clear (confirms p number)
unfolding confirms
confirm p number = Clear_then arms_elect (posts p Ack number) elects (post p Ack number refl)

repeat : (p : PeerId) (number : ℕ) → Clear (acks_repeat p number)
unfolding acks_repeat
repeat p number = Clear_either _ (posts p Ack number) nothing (post p Ack number refl) Clear_nothing

adjtime : (p : PeerId) (number : ℕ) (amount : ℤ) → Clear (adjtime_of p number amount)
unfolding adjtime_of
adjtime p number amount = Clear_either (takes_amount number amount) (adjusts amount followed_by confirms p number) (acks_repeat p number)
    (Clear_then (adjusts amount) (confirms p number) (emit (Moving ∷ []) (adjusts amount) refl (Emits_adjusts amount refl)) (confirm p number))
    (repeat p number)

settime : (p : PeerId) (number : ℕ) (value : ℤ) → Clear (settime_of p number value)
unfolding settime_of
settime p number value = Clear_either (takes_value number value) (sets value followed_by confirms p number) (acks_repeat p number)
    (Clear_then (sets value) (confirms p number) (emit (Moving ∷ []) (sets value) refl (Emits_sets value refl)) (confirm p number))
    (repeat p number)

from : (p : PeerId) (row : Row) (r : Role) → Clear row → Clear (from_master p row r)
unfolding from_master
from p row (Follow q) d = Clear_if (q.0 == p.0) row nothing d Clear_nothing
from p row _ d = Clear_nothing

slave : (p : PeerId) (m : MessageValue) (k : Kind) → Clear (slave_takes_kind p m k)
unfolding slave_takes_kind
slave p m MasterUp = Clear_reading role_at (masterup_in p) (masterup p)
slave p m MasterAck = Clear_reading role_at (masterack_in p) (masterack p)
slave p m Election = election p m.number
slave p m AdjTime = Clear_reading role_at _ (λ r. from p (adjtime_of p m.number (time_in m.body)) r (adjtime p m.number (time_in m.body)))
slave p m SetTime = Clear_reading role_at _ (λ r. from p (settime_of p m.number (time_in m.body)) r (settime p m.number (time_in m.body)))
slave p m QuitKind = quit p m.number
slave p m Ack = acked p m.number
slave p m _ = Clear_nothing

-- a candidate

pub yield : Clear yields
unfolding yields
yield = Clear_then (puts (Become Loose)) arms_elect (Clear_puts (Become Loose) refl) elects

refused : (p : PeerId) (number : ℕ) → Clear (refused_by p number)
unfolding refused_by
refused p number = Clear_either (has_election p number) (puts (Acked p) followed_by yields) nothing
    (Clear_then (puts (Acked p)) yields (Clear_puts (Acked p) refl) yield) Clear_nothing

candidate : (p : PeerId) (m : MessageValue) (k : Kind) → Clear (candidate_takes_kind p m k)
unfolding candidate_takes_kind
candidate p m MasterUp = follow p
candidate p m MasterAck = follow p
candidate p m Election = post p Refuse m.number refl
candidate p m Accept = calm {sorts = Acking ∷ Counting ∷ []} refl refl (built_accepted_by p m.number tt)
candidate p m Refuse = refused p m.number
candidate p m QuitKind = quit p m.number
candidate p m Ack = acked p m.number
candidate p m _ = Clear_nothing

-- whatever was taken

test : (from : Place) (number : ℕ) → Clear (tests from number)
unfolding tests
test from number = Clear_either is_awake (posts_back from Ack number followed_by either_by may_be_asked candidature_row nothing) nothing
    (Clear_then (posts_back from Ack number) (either_by may_be_asked candidature_row nothing)
    (emit (Posting ∷ []) (posts_back from Ack number) refl (Emits_posts_back from Ack number refl))
    (Clear_either may_be_asked candidature_row nothing candidature Clear_nothing))
    Clear_nothing

-- acts that end with the arming of Resolve, which wasn't armed, and with what each other peer is asked then
pub record AsksLast (x : ℕ) (past : Past) (acts : List Act) : Type 0 where
  pub front : List Act
  pub is : acts ≡ front ++ resolve_acts x past
  pub free : Unasked front
  pub unarmed : is_armed ResolveAlarm x (grown x past front) ≡ false

abbrev pub FairActs : ℕ → Past → List Act → Type 0
FairActs x past acts = Unasked acts ⊎ AsksLast x past acts

-- a row of such acts, or of acts that don't arm Resolve
pub record Fair (row : Row) : Type 0 where
  pub run : (x : ℕ) (past : Past) → FairActs x past (row x past)

clear : {row : Row} → Clear row → Fair row
clear c = record { run = λ x past. inl (c.run x past) }

Fair_either : (test : ℕ → Past → Bool) (r s : Row) → Fair r → Fair s → Fair (either_by test r s)
unfolding either_by
Fair_either test r s p q = record {
  run = λ x past. elim (test x past) as (λ b. FairActs x past (if b then r x past else s x past)) [
    | true ↦ p.run x past
    | false ↦ q.run x past
  ];
}

Fair_reading : {A : Type 0} (fact : ℕ → Past → A) (rows : A → Row) → ((a : A) → Fair (rows a)) → Fair (reading fact rows)
unfolding reading
Fair_reading fact rows k = record { run = λ x past. (k (fact x past)).run x past }

-- after one act
after_one : (x : ℕ) (past : Past) (a : Act) (acts : List Act) → arms_resolve a ≡ false → FairActs x (grown x past (a ∷ [])) acts → FairActs x past (a ∷ acts)
after_one x past a acts e (inl u) = inl (e, u)
after_one x past a acts e (inr k) = inr (record { front = a ∷ k.front; is = ap (λ rest. a ∷ rest) k.is; free = (e, k.free); unarmed = k.unarmed })

Fair_puts : (a : Act) (s : Row) → arms_resolve a ≡ false → Fair s → Fair (puts a followed_by s)
unfolding puts ◌followed_by◌
Fair_puts a s e f = record { run = λ x past. after_one x past a (s x (grown x past (a ∷ []))) e (f.run x (grown x past (a ∷ []))) }

Fair_posts : (p : PeerId) (kind : Kind) (number : ℕ) (s : Row) → Fair s → Fair (posts p kind number followed_by s)
unfolding posts ◌followed_by◌
Fair_posts p kind number s f = record {
  run = λ x past. let a = post_of kind number past.name p in after_one x past a (s x (grown x past (a ∷ []))) refl (f.run x (grown x past (a ∷ [])));
}

-- a master

resolve : Fair resolves
unfolding resolves either_by nothing arms posts_to_others ◌followed_by◌
resolve = record { run = λ x past. by_case x past (is_armed ResolveAlarm x past) refl } where
  by_case : (x : ℕ) (past : Past) (b : Bool) → is_armed ResolveAlarm x past ≡ b → FairActs x past (if b then [] else resolve_acts x past)
  by_case x past true e = inl tt
  by_case x past false e = inr (record { front = []; is = refl; free = tt; unarmed = e })

master : (p : PeerId) (m : MessageValue) (k : Kind) → Fair (master_takes_kind p m k)
unfolding master_takes_kind
master p m MasterReq = clear (post p MasterAck m.number refl)
master p m ResolveKind = clear (post p MasterAck m.number refl)
master p m SlaveUp = clear (calm {sorts = Correcting ∷ Tabling ∷ []} refl refl (built_joins p m.number tt tt))
master p m Election = clear (calm {sorts = Numbering ∷ []} refl refl (built_sends_away p tt))
master p m MasterUp = resolve
master p m Conflict = Fair_posts p Ack m.number resolves resolve
master p m MasterAck = clear (calm {sorts = Rivalling ∷ []} refl refl (built_finds_rival p tt))
master p m QuitKind = clear (quit p m.number)
master p m Ack = clear (acked p m.number)
master p m _ = clear Clear_nothing

says : (p : PeerId) (m : MessageValue) (r : Role) → Fair (says_in p m r)
unfolding says_in slave_takes candidate_takes master_takes
says p m Starting = clear Clear_nothing
says p m Candidate = clear (candidate p m m.kind)
says p m Master = master p m m.kind
says p m _ = clear (slave p m m.kind)

peer : (from : Place) (row : PeerId → Row) → ((p : PeerId) → Fair (row p)) → Fair (from_peer from row)
unfolding from_peer
peer (Peer p) row d = Fair_either (is_heard p) (row p) nothing (d p) (clear Clear_nothing)
peer Stranger row d = clear Clear_nothing

peer_says_holds : (m : MessageValue) (p : PeerId) → Fair (peer_says m p)
unfolding peer_says
peer_says_holds m p = Fair_reading role_at (says_in p m) (says p m)

kind : (charge : Bool) (from : Place) (m : MessageValue) (k : Kind) → Fair (handles_kind charge from m k)
unfolding handles_kind
kind charge from m Msite = clear (calm {sorts = Posting ∷ []} refl refl (built_names_master from m.number (place_unchanged from) tt tt))
kind charge from m MsiteReq = clear (calm {sorts = Posting ∷ []} refl refl (built_says_master from m.number (place_unchanged from) tt tt))
kind charge from m TraceOn = clear (calm {sorts = Tracing ∷ Posting ∷ []} refl refl (built_traces from m.number (place_unchanged from) tt tt true))
kind charge from m TraceOff = clear (calm {sorts = Tracing ∷ Posting ∷ []} refl refl (built_traces from m.number (place_unchanged from) tt tt false))
kind charge from m Test = clear (test from m.number)
kind charge from m Date = clear (calm {sorts = date_sorts} refl refl (built_date_of charge m tt tt from (place_unchanged from) tt))
kind charge from m SetDate = clear (calm {sorts = date_sorts} refl refl (built_date_of charge m tt tt from (place_unchanged from) tt))
kind charge from m DateReq = peer from (date_request_of charge m) (λ p. clear (calm {sorts = date_sorts} refl refl
    (built_date_request_of charge m tt tt p tt)))
kind charge from m SetDateReq = peer from (date_request_of charge m) (λ p. clear (calm {sorts = date_sorts} refl refl
    (built_date_request_of charge m tt tt p tt)))
kind charge from m DateAck = peer from (date_acked m) (λ p. clear (calm {sorts = Acking ∷ []} refl refl (built_date_acked m p tt)))
kind charge from m LoopKind = clear Clear_nothing
kind charge from m _ = peer from (peer_says m) (peer_says_holds m)

handled : (steer charge : Bool) (from : Place) (t : Taken) → Fair (handles steer charge from t)
unfolding handles
handled steer charge from (Bad fault) = clear Clear_nothing
handled steer charge from (Good (Message m)) = Fair_either (is_left steer m.kind) nothing (handles_kind charge from m m.kind) (clear Clear_nothing)
    (kind charge from m m.kind)
handled steer charge from (Good (Stamp (Request word counter))) = clear (calm {sorts = Posting ∷ []} refl refl
    (built_replies from word counter (place_unchanged from) tt tt))
handled steer charge from (Good (Stamp (Reply r))) = peer from (peer_replies r) (λ p. clear (calm {sorts = Sampling ∷ []} refl refl
    (built_peer_replies r p tt tt)))

-- what is taken
pub taking : (steer charge : Bool) (from : Place) (t : Taken) → Fair (takes steer charge from t)
unfolding takes
taking steer charge from t = Fair_puts (Took from t) (either_by (is_own from) nothing (handles steer charge from t)) refl
    (Fair_either (is_own from) nothing (handles steer charge from t) (clear Clear_nothing) (handled steer charge from t))

-- what comes otherwise

pub loosened : Clear loosens_master
unfolding loosens_master
loosened = Clear_either is_master_at yields nothing yield Clear_nothing

pub looped : (q : Port) → Clear (sends_loops q)
looped q = calm {sorts = Posting ∷ []} refl refl (built_sends_loops q tt)

pub reposted : (m : MessageValue) → Clear (reposts m)
unfolding reposts
reposted m = record { run = λ x past. each (others past.own past.peers) } where
  each : (ps : List PeerId) → Unasked (map (repost m) ps)
  each [] = tt
  each (p ∷ ps) = (refl, each ps)

pub repeated : Clear due_sends
repeated = calm {sorts = send_sorts} refl refl built_due_sends
