-- What a port does with a datagram, and its due sends, have their motives.
use Rattle.std.proofs.Common.{sym, ap, ◌∙◌, ◌≡◌, inl, inr, ℕ, ℤ, ◌==◌, Bool, true, false, List, [], ◌∷◌, Option, None, Some, map, refl}
use Rattle.tsp_rules.specs.Values.{Act, Took, Post, Back, Quit, Abandon, Acked, Gave, Leave, Search, ResolveAlarm, PeerId, Place, Peer, Stranger, Port, Role}
use Rattle.tsp_rules.specs.Values.{Starting, Loose, Follow, Candidate, Master, Kind, Accept, Ack, AdjTime, Conflict, Date, DateAck, DateReq, Election, LoopKind}
use Rattle.tsp_rules.specs.Values.{MasterAck, MasterReq, MasterUp, Msite, MsiteReq, QuitKind, Refuse, ResolveKind, SetDate, SetDateReq, SetTime, SlaveUp, Test}
use Rattle.tsp_rules.specs.Values.{TraceOff, TraceOn, Taken, Good, Bad, Message, Stamp, Request, Reply, WINDOW}
use Rattle.tsp_base.specs.Words.{Here, MessageValue, Past, ReplyValue, Row, Seen, Sending, Leads, arms, bare, did_of, for_each, grown, message_at, message_of}
use Rattle.tsp_base.specs.Words.{nothing, open_to, others, post_of, posts, posts_back, posts_of, posts_time, posts_to_others, puts, either_by, reading, role}
use Rattle.tsp_base.specs.Words.{sending_at, sending_of, taken, time_in, ◌followed_by◌}
use Rattle.tsp_base.proofs.LeadsLemmas.{Leads_then, Leads_either, Leads_reading, Leads_nothing, Leads_puts, Leads_each, Leads_from, Leads_to}
use Rattle.tsp_rules.specs.CandidateRows.{candidate_takes, candidate_takes_kind, refused_by, yields}
use Rattle.tsp_rules.specs.CommonRows.{arms_elect, candidature_row, follow_row, follows_unless, is_awake, is_idle, may_be_asked, names_master, master_name}
use Rattle.tsp_rules.specs.CommonRows.{quits}
use Rattle.tsp_rules.specs.CommonRows.{posts_reply, replies, says_master, tests, traces}
use Rattle.tsp_rules.specs.SlaveRows.{reports_conflict, masterup_in, masterack_in, election_of}
use Rattle.tsp_rules.specs.SlaveRows.{acks_repeat, confirms, adjtime_of, settime_of, from_master, slave_takes, slave_takes_kind, takes_amount, takes_value}
use Rattle.tsp_rules.specs.SlaveRows.{is_repeated}
use Rattle.tsp_rules.specs.{MasterRows.master_takes, MasterRows.master_takes_kind, MasterRows.sends_away, ResolveRows.resolves}
use Rattle.tsp_rules.specs.{ClockRows.adjusts, ClockRows.sets}
use Rattle.tsp_rules.specs.DateRows.{date_acked, date_in, date_of, date_request_in, date_request_of, is_dated, leaves, leaves_all, may_date, new_date}
use Rattle.tsp_rules.specs.DateRows.{passes_on}
use Rattle.tsp_rules.specs.DateRows.{sets_date_where, sets_in_charge}
use Rattle.tsp_rules.specs.{GateRows.loosens_master, GateRows.reposts, GateRows.repost, GateRows.loop_to, GateRows.sends_loops}
use Rattle.tsp_rules.specs.Guards.{is_heard, is_armed, is_in_range, is_master, is_master_at, is_own, may_back_at, role_at, table_at}
use Rattle.tsp_rules.specs.SendRows.{acknowledges, begins, begins_timed, due_send, due_sends, gives_up, has_quit, is_free, next_number}
use Rattle.tsp_rules.specs.SendRows.{is_send_due, is_spent, leaves_after, open_at, peers_at, repeats, repeats_send}
use Rattle.tsp_rules.specs.Answers.{from_peer, handles, handles_kind, is_left, peer_replies, peer_says, says_in, takes}
use Rattle.tsp_rules.proofs.Emits.{Acking, Counting, Correcting, Tabling, Rivalling, Sampling}
use Rattle.tsp_rules.proofs.BuiltShared.{built_acknowledges}
use Rattle.tsp_rules.proofs.BuiltAnswers.{built_date_acked, built_peer_replies}
use Rattle.tsp_rules.proofs.{BuiltRoles.built_accepted_by, BuiltRoles.built_joins, BuiltRoles.built_finds_rival}
use Rattle.tsp_progress.specs.AlarmsFit.{is_candidate, newest_is}
use Rattle.tsp_progress.specs.{CausesFit.backs_by, Motives.TookCall, Calling.is_masters, RolesLast.TookKind}
use Rattle.tsp_progress.proofs.PortWakes.{Leads_if}
use Rattle.tsp_progress.proofs.MotiveLeads.{Base, In, Moved, any_role, calm_built, does_plain, is_common, is_plain, keep, now_did}
use Rattle.tsp_progress.proofs.MotiveLeads.{plain, rule_built, says_open}
use Rattle.tsp_progress.proofs.MotiveRows.{Called, again, arms_resolve, begun, begun_rule, called_after, candidate_busy, drop, elects_for, follows}
use Rattle.tsp_progress.proofs.MotiveRows.{from_any, master_busy, posted, posted_rule, stands, told_rule, yield}

-- the due sends

none_sent : {A : Type 0} {s : Sending} → None ≡ Some s → A
none_sent e = let bad : ⊥ = cc in absurd bad

send_message : (place : List Seen) (n : ℕ) (s : Sending) → sending_at place n ≡ Some s → message_at place ≡ Some s.message
send_message [] n s e = none_sent e
send_message (k ∷ older) n s e = by_message (message_of (did_of k).deed) refl e where
  by_message : (o : Option MessageValue) → message_of (did_of k).deed ≡ o → sending_of o (did_of k).tick n ≡ Some s → message_of (did_of k).deed ≡
      Some s.message
  by_message None is e = none_sent e
  by_message (Some m) is e = is ∙ ap (λ (o : Option Sending). message-or m o) e where
    message-or : MessageValue → Option Sending → Option MessageValue
    message-or other None = Some other
    message-or other (Some t) = Some t.message

gone : (p : PeerId) (kind : Kind) → Leads (In any_role) (gives_up p kind) (In any_role)
unfolding gives_up leaves_after
gone p kind = Leads_then {Q = In any_role} (puts (Gave p)) _ (does_plain any_role (Gave p) refl)
    (Leads_if _ _ nothing (Leads_either _ (puts (Leave p)) nothing (Leads_from (λ x past h. h.0) (does_plain any_role (Leave p) refl))
    (Leads_from (λ x past h. h.0) Leads_nothing)) Leads_nothing)

due : (p : PeerId) (o : Option Sending) → Leads (λ x past. In any_role x past × (open_at p x past ≡ o)) (repeats_send p o) (In any_role)
unfolding repeats_send repeats
due p None = Leads_from (λ x past h. h.0) Leads_nothing
due p (Some s) = Leads_either (is_send_due s) (either_by (is_spent s) (gives_up p s.message.kind) (puts (Post (Peer p) (Message s.message)))) nothing
    (Leads_either (is_spent s) (gives_up p s.message.kind) (puts (Post (Peer p) (Message s.message)))
    (Leads_from (λ x past h. h.0.0.0) (gone p s.message.kind))
    (Leads_puts (Post (Peer p) (Message s.message)) (λ x past h. keep any_role (Post (Peer p) (Message s.message)) refl x past h.0.0.0
    (ap (λ o. says_open o (role past.seen)) (sym (send_message (open_to p past.seen) (posts_of p past.seen) s h.0.0.1)) ∙ h.0.0.0.0.sends p) tt)))
    (Leads_from (λ x past h. h.0.0) Leads_nothing)

pub sends_moved : Leads Base due_sends Base
unfolding due_sends due_send
sends_moved = from_any (Leads_reading peers_at (for_each (λ p. reading (open_at p) (repeats_send p))) (λ ps. Leads_from (λ x past h. h.0)
    (Leads_each (λ (p : PeerId). reading (open_at p) (repeats_send p)) ps (λ p. Leads_reading (open_at p) (repeats_send p) (due p)))))

-- what is taken
abbrev pub TookFrom : Place → Taken → ℕ → Past → Type 0
TookFrom from t x past = Moved past.seen × (taken past.seen ≡ Some (record { from = from; taken = t }))

abbrev SaidBy : PeerId → MessageValue → ℕ → Past → Type 0
SaidBy p m = TookFrom (Peer p) (Good (Message m))

-- in such a role
abbrev SaidIn : (Role → Bool) → PeerId → MessageValue → ℕ → Past → Type 0
SaidIn ok p m x past = SaidBy p m x past × (ok (role past.seen) ≡ true)

just : {row : Row} (from : Place) (t : Taken) → Leads Base row Base → Leads (TookFrom from t) row Base
just from t d = Leads_from (λ x past h. h.0) d

call_of : (p : PeerId) (m : MessageValue) (seen : List Seen) → is_masters m.kind ≡ true →
    taken seen ≡ Some (record { from = Peer p; taken = Good (Message m) }) → TookCall seen
call_of p m seen call e = record { from = p; message = m; took = e; call = call }

-- a QUIT

abbrev Quitting : ℕ → Past → Type 0
Quitting x past = Moved past.seen × TookCall past.seen

unless : (p : PeerId) (r : Role) → Leads (λ x past. Quitting x past × (role_at x past ≡ r)) (follows_unless p r) Base
unfolding follows_unless
unless p (Follow q) = Leads_from (λ x past h. h.0.0) Leads_nothing
unless p _ = Leads_from (λ x past h. h.0) (follows p)

quitting_keeps : (a : Act) → is_plain a ≡ true → (x : ℕ) (past : Past) → taken (grown x past (a ∷ [])).seen ≡ taken past.seen → Quitting x past →
    Quitting x (grown x past (a ∷ []))
quitting_keeps a e x past same h = ((plain any_role a e x past (h.0, refl)).0, called_after past.seen (Here (now_did x past a)) same h.1)

sent_away : (p : PeerId) (m : MessageValue) → m.kind ≡ QuitKind → Leads (SaidBy p m) (quits p m.number) Base
unfolding quits posts
sent_away p m kind = Leads_then {Q = Quitting} (puts (Quit p)) (posts p Ack m.number followed_by reading role_at (follows_unless p))
    (Leads_puts (Quit p) (λ x past h. quitting_keeps (Quit p) refl x past refl (h.0, call_of p m past.seen (ap is_masters kind) h.1)))
    (Leads_then {Q = Quitting} (posts p Ack m.number) (reading role_at (follows_unless p))
    (record { run = λ x past h. quitting_keeps (post_of Ack m.number past.name p) refl x past refl h })
    (Leads_reading role_at (follows_unless p) (unless p)))

-- a port that is Loose or follows

conflict : (q : PeerId) → Leads (In is_idle) (reports_conflict q) (In is_idle)
unfolding reports_conflict
conflict q = Leads_either (is_free q) (begins Conflict q) nothing (Leads_from (λ x past h. h.0) (begun is_idle Conflict q refl))
    (Leads_from (λ x past h. h.0) Leads_nothing)

-- with its role, since a master's word came
abbrev CalledAs : Role → ℕ → Past → Type 0
CalledAs r x past = Quitting x past × (role_at x past ≡ r)

masterup : (p : PeerId) (r : Role) → Leads (CalledAs r) (masterup_in p r) Base
unfolding masterup_in
masterup p Loose = Leads_from (λ x past h. h.0) (follows p)
masterup p (Follow q) = Leads_from {Q = Called is_idle} (λ x past h. ((h.0.0, ap is_idle h.1), h.0.1))
    (Leads_to (λ x past h. h.0) (Leads_if (q.0 == p.0) _ _ (again p) (Leads_from (λ x past h. h.0) (conflict q))))
masterup p _ = Leads_from (λ x past h. h.0.0) Leads_nothing

masterack : (p : PeerId) (r : Role) → Leads (CalledAs r) (masterack_in p r) Base
unfolding masterack_in
masterack p Loose = Leads_either (is_armed Search) (follow_row p) nothing (Leads_from (λ x past h. h.0.0) (follows p))
    (Leads_from (λ x past h. h.0.0.0) Leads_nothing)
masterack p (Follow q) = Leads_from {Q = In is_idle} (λ x past h. (h.0.0, ap is_idle h.1))
    (drop is_idle (Leads_if (q.0 == p.0) _ _ Leads_nothing (conflict q)))
masterack p _ = Leads_from (λ x past h. h.0.0) Leads_nothing

-- it has just backed somebody
abbrev Backed : ℕ → Past → Type 0
Backed x past = In is_idle x past × (newest_is backs_by past.seen ≡ true)

votes : (p : PeerId) (m : MessageValue) → m.kind ≡ Election → Leads (SaidIn is_idle p m) (election_of p m.number) (In is_idle)
unfolding election_of
votes p m kind = Leads_either (may_back_at p) (puts (Back p) followed_by (arms_elect followed_by posts p Accept m.number)) (posts p Refuse m.number)
    (Leads_then {Q = Backed} (puts (Back p)) (arms_elect followed_by posts p Accept m.number)
    (Leads_puts (Back p) (λ x past h. (
      keep is_idle (Back p) refl x past (h.0.0.0, h.0.1) (inl (record { message = m; took = h.0.0.1; kind_is = kind })) tt,
      refl,
    )))
    (Leads_then {Q = In is_idle} arms_elect (posts p Accept m.number) (elects_for (λ x past h. (h.0, inr (inl h.1))))
    (posted is_idle p Accept m.number refl)))
    (Leads_from (λ x past h. (h.0.0.0, h.0.1)) (posted is_idle p Refuse m.number refl))

moves : (amount : ℤ) → Leads (Called is_idle) (adjusts amount) (Called is_idle)
unfolding adjusts
moves amount = record { run = λ x past h. (plain is_idle _ refl x past h.0, called_after past.seen (Here (now_did x past _)) refl h.1) }

steps : (value : ℤ) → Leads (Called is_idle) (sets value) (Called is_idle)
unfolding sets
steps value = record { run = λ x past h. (plain is_idle _ refl x past h.0, called_after past.seen (Here (now_did x past _)) refl h.1) }

confirmed : (p : PeerId) (number : ℕ) → Leads (Called is_idle) (confirms p number) (In is_idle)
unfolding confirms
confirmed p number = Leads_then {Q = In is_idle} arms_elect (posts p Ack number) (elects_for (λ x past h. (h.0, inr (inr h.1))))
    (posted is_idle p Ack number refl)

repeated : (p : PeerId) (number : ℕ) → Leads (In is_idle) (acks_repeat p number) (In is_idle)
unfolding acks_repeat
repeated p number = Leads_either (is_repeated p number) (posts p Ack number) nothing (Leads_from (λ x past h. h.0) (posted is_idle p Ack number refl))
    (Leads_from (λ x past h. h.0) Leads_nothing)

adjusted : (p : PeerId) (number : ℕ) (amount : ℤ) → Leads (Called is_idle) (adjtime_of p number amount) (In is_idle)
unfolding adjtime_of
adjusted p number amount = Leads_either (takes_amount number amount) (adjusts amount followed_by confirms p number) (acks_repeat p number)
    (Leads_from (λ x past h. h.0) (Leads_then {Q = Called is_idle} (adjusts amount) (confirms p number) (moves amount) (confirmed p number)))
    (Leads_from (λ x past h. h.0.0) (repeated p number))

set_so : (p : PeerId) (number : ℕ) (value : ℤ) → Leads (Called is_idle) (settime_of p number value) (In is_idle)
unfolding settime_of
set_so p number value = Leads_either (takes_value number value) (sets value followed_by confirms p number) (acks_repeat p number)
    (Leads_from (λ x past h. h.0) (Leads_then {Q = Called is_idle} (sets value) (confirms p number) (steps value) (confirmed p number)))
    (Leads_from (λ x past h. h.0.0) (repeated p number))

of_master : (p : PeerId) (row : Row) (r : Role) → Leads (Called is_idle) row (In is_idle) → Leads (Called is_idle) (from_master p row r) (In is_idle)
unfolding from_master
of_master p row (Follow q) d = Leads_if (q.0 == p.0) row nothing d (Leads_from (λ x past h. h.0) Leads_nothing)
of_master p row _ d = Leads_from (λ x past h. h.0) Leads_nothing

acked : (p : PeerId) (number : ℕ) → Leads (In any_role) (acknowledges p number) (In any_role)
acked p number = calm_built any_role {sorts = Acking ∷ []} refl refl (built_acknowledges p number tt)

slave : (p : PeerId) (m : MessageValue) (k : Kind) → m.kind ≡ k → Leads (SaidIn is_idle p m) (slave_takes_kind p m k) Base
unfolding slave_takes_kind
slave p m MasterUp is = Leads_from {Q = Quitting} (λ x past h. (h.0.0, call_of p m past.seen (ap is_masters is) h.0.1))
    (Leads_reading role_at (masterup_in p) (masterup p))
slave p m MasterAck is = Leads_from {Q = Quitting} (λ x past h. (h.0.0, call_of p m past.seen (ap is_masters is) h.0.1))
    (Leads_reading role_at (masterack_in p) (masterack p))
slave p m Election is = drop_said (votes p m is) where
  drop_said : {row : Row} → Leads (SaidIn is_idle p m) row (In is_idle) → Leads (SaidIn is_idle p m) row Base
  drop_said d = Leads_to (λ x past h. h.0) d
slave p m AdjTime is = Leads_from {Q = Called is_idle} (λ x past h. ((h.0.0, h.1), call_of p m past.seen (ap is_masters is) h.0.1))
    (Leads_to (λ x past h. h.0) (Leads_reading role_at _ (λ r. Leads_from (λ x past h. h.0)
    (of_master p (adjtime_of p m.number (time_in m.body)) r (adjusted p m.number (time_in m.body))))))
slave p m SetTime is = Leads_from {Q = Called is_idle} (λ x past h. ((h.0.0, h.1), call_of p m past.seen (ap is_masters is) h.0.1))
    (Leads_to (λ x past h. h.0) (Leads_reading role_at _ (λ r. Leads_from (λ x past h. h.0)
    (of_master p (settime_of p m.number (time_in m.body)) r (set_so p m.number (time_in m.body))))))
slave p m QuitKind is = Leads_from (λ x past h. h.0) (sent_away p m is)
slave p m Ack is = Leads_from (λ x past h. h.0.0) (from_any (acked p m.number))
slave p m _ is = Leads_from (λ x past h. h.0.0) Leads_nothing

-- a candidate

candidate_follows : (p : PeerId) (m : MessageValue) → is_masters m.kind ≡ true → Leads (SaidIn is_candidate p m) (follow_row p) Base
candidate_follows p m call = Leads_from (λ x past h. (h.0.0, call_of p m past.seen call h.0.1)) (follows p)

refused : (p : PeerId) (number : ℕ) → Leads (In is_candidate) (refused_by p number) Base
unfolding refused_by
refused p number = Leads_either _ (puts (Acked p) followed_by yields) nothing
    (Leads_from (λ x past h. h.0) (Leads_then {Q = In is_candidate} (puts (Acked p)) yields (does_plain is_candidate (Acked p) refl)
    (yield (λ x past h. (h.0, candidate_busy (role past.seen) h.1)))))
    (Leads_from (λ x past h. h.0.0) Leads_nothing)

candidate : (p : PeerId) (m : MessageValue) (k : Kind) → m.kind ≡ k → Leads (SaidIn is_candidate p m) (candidate_takes_kind p m k) Base
unfolding candidate_takes_kind
candidate p m MasterUp is = candidate_follows p m (ap is_masters is)
candidate p m MasterAck is = candidate_follows p m (ap is_masters is)
candidate p m Election is = Leads_from (λ x past h. h.0.0) (from_any (posted any_role p Refuse m.number refl))
candidate p m Accept is = Leads_from (λ x past h. h.0.0)
    (from_any (calm_built any_role {sorts = Acking ∷ Counting ∷ []} refl refl (built_accepted_by p m.number tt)))
candidate p m Refuse is = Leads_from {Q = In is_candidate} (λ x past h. (h.0.0, h.1)) (refused p m.number)
candidate p m QuitKind is = Leads_from (λ x past h. h.0) (sent_away p m is)
candidate p m Ack is = Leads_from (λ x past h. h.0.0) (from_any (acked p m.number))
candidate p m _ is = Leads_from (λ x past h. h.0.0) Leads_nothing

-- a master

resolution : Leads (In is_master) resolves (In is_master)
unfolding resolves
resolution = Leads_either (is_armed ResolveAlarm) nothing (arms ResolveAlarm WINDOW followed_by posts_to_others ResolveKind 0)
    (Leads_from (λ x past h. h.0) Leads_nothing)
    (Leads_from (λ x past h. h.0) (Leads_then {Q = In is_master} (arms ResolveAlarm WINDOW) (posts_to_others ResolveKind 0)
    (arms_resolve WINDOW) (told_rule ResolveKind refl)))

sends_away_holds : (p : PeerId) → Leads (In is_master) (sends_away p) (In is_master)
unfolding sends_away
sends_away_holds p = Leads_either (has_quit p) nothing (begins QuitKind p) (Leads_from (λ x past h. h.0) Leads_nothing)
    (Leads_from (λ x past h. h.0) (begun_rule QuitKind p refl))

as_master : {row : Row} (p : PeerId) (m : MessageValue) → Leads (In is_master) row (In is_master) → Leads (SaidIn is_master p m) row Base
as_master p m d = Leads_from {Q = In is_master} (λ x past h. (h.0.0, h.1)) (drop is_master d)

master : (p : PeerId) (m : MessageValue) (k : Kind) → m.kind ≡ k → Leads (SaidIn is_master p m) (master_takes_kind p m k) Base
unfolding master_takes_kind
master p m MasterReq is = as_master p m (posted_rule p MasterAck m.number refl)
master p m ResolveKind is = as_master p m (posted_rule p MasterAck m.number refl)
master p m SlaveUp is = as_master p m (rule_built {sorts = Correcting ∷ Tabling ∷ []} refl refl (built_joins p m.number tt tt))
master p m Election is = as_master p m (sends_away_holds p)
master p m MasterUp is = as_master p m resolution
master p m Conflict is = as_master p m (Leads_then {Q = In is_master} (posts p Ack m.number) resolves (posted_rule p Ack m.number refl) resolution)
master p m MasterAck is = as_master p m (calm_built is_master {sorts = Rivalling ∷ []} refl refl (built_finds_rival p tt))
master p m QuitKind is = Leads_from (λ x past h. h.0) (sent_away p m is)
master p m Ack is = Leads_from (λ x past h. h.0.0) (from_any (acked p m.number))
master p m _ is = Leads_from (λ x past h. h.0.0) Leads_nothing

says : (p : PeerId) (m : MessageValue) (r : Role) → Leads (λ x past. SaidBy p m x past × (role_at x past ≡ r)) (says_in p m r) Base
unfolding says_in slave_takes candidate_takes master_takes
says p m Starting = Leads_from (λ x past h. h.0.0) Leads_nothing
says p m Loose = Leads_from (λ x past h. (h.0, ap is_idle h.1)) (slave p m m.kind refl)
says p m (Follow q) = Leads_from (λ x past h. (h.0, ap is_idle h.1)) (slave p m m.kind refl)
says p m Candidate = Leads_from (λ x past h. (h.0, ap is_candidate h.1)) (candidate p m m.kind refl)
says p m Master = Leads_from (λ x past h. (h.0, ap is_master h.1)) (master p m m.kind refl)

peer_says_holds : (m : MessageValue) (p : PeerId) → Leads (SaidBy p m) (peer_says m p) Base
unfolding peer_says
peer_says_holds m p = Leads_reading role_at (says_in p m) (says p m)

peer : (from : Place) (m : MessageValue) (row : PeerId → Row) → ((p : PeerId) → Leads (SaidBy p m) (row p) Base) →
    Leads (TookFrom from (Good (Message m))) (from_peer from row) Base
unfolding from_peer
peer (Peer p) m row d = Leads_either (is_heard p) (row p) nothing (Leads_from (λ x past h. h.0) (d p)) (Leads_from (λ x past h. h.0.0) Leads_nothing)
peer Stranger m row d = Leads_from (λ x past h. h.0) Leads_nothing

-- clients

back_plain : (from : Place) (m : MessageValue) → is_common m.kind ≡ true → is_plain (Post from (Message m)) ≡ true
back_plain (Peer p) m e = e
back_plain Stranger m e = refl

back : (ok : Role → Bool) (from : Place) (kind : Kind) (number : ℕ) → is_common kind ≡ true → Leads (In ok) (posts_back from kind number) (In ok)
unfolding posts_back
back ok from kind number e = record {
  run = λ x past h. plain ok (Post from (Message (bare kind number past.name))) (back_plain from (bare kind number past.name) e) x past h;
}

either : {r s : Row} (ok : Role → Bool) (test : ℕ → Past → Bool) → Leads (In ok) r (In ok) → Leads (In ok) s (In ok) →
    Leads (In ok) (either_by test r s) (In ok)
either {r} {s} ok test d e = Leads_either test r s (Leads_from (λ x past h. h.0) d) (Leads_from (λ x past h. h.0) e)

named : (from : Place) (number : ℕ) → Leads (In any_role) (names_master from number) (In any_role)
unfolding names_master
named from number = Leads_reading master_name (λ name. puts (Post from (Message (bare Ack number name))))
    (λ name. Leads_from (λ x past h. h.0) (does_plain any_role (Post from (Message (bare Ack number name))) (back_plain from (bare Ack number name) refl)))

says_so : (from : Place) (number : ℕ) → Leads (In any_role) (says_master from number) (In any_role)
unfolding says_master
says_so from number = either any_role is_master_at (back any_role from Ack number refl) Leads_nothing

traced : (from : Place) (number : ℕ) (on : Bool) → Leads (In any_role) (traces from number on) (In any_role)
unfolding traces
traced from number on = Leads_then {Q = In any_role} _ (posts_back from Ack number) (does_plain any_role _ refl) (back any_role from Ack number refl)

-- a TEST

abbrev Tested : ℕ → Past → Type 0
Tested x past = Moved past.seen × TookKind Test past.seen

tested : (from : Place) (m : MessageValue) → m.kind ≡ Test → Leads (TookFrom from (Good (Message m))) (tests from m.number) Base
unfolding tests posts_back
tested from m kind = Leads_either is_awake (posts_back from Ack m.number followed_by either_by may_be_asked candidature_row nothing) nothing
    (Leads_then {Q = Tested} (posts_back from Ack m.number) (either_by may_be_asked candidature_row nothing)
    (record {
      run = λ x past h. (
        (plain any_role (Post from (Message (bare Ack m.number past.name))) (back_plain from (bare Ack m.number past.name) refl) x past (h.0.0, refl)).0,
        record { from = from; message = m; took = h.0.1; kind_is = kind },
      );
    })
    (Leads_either may_be_asked candidature_row nothing (stands (λ x past h. (h.0.0, inr h.0.1))) (Leads_from (λ x past h. h.0.0) Leads_nothing)))
    (Leads_from (λ x past h. h.0.0) Leads_nothing)

-- dates

timed_post : (ok : Role → Bool) (p : PeerId) (kind : Kind) (number : ℕ) (time : ℤ) → is_common kind ≡ true →
    Leads (In ok) (posts_time p kind number time) (In ok)
unfolding posts_time
timed_post ok p kind number time e = record { run = λ x past h. plain ok _ e x past h }

passed : (ok : Role → Bool) (from : Place) (q : PeerId) (number : ℕ) (time : ℤ) → Leads (In ok) (passes_on from q number time) (In ok)
unfolding passes_on begins_timed
passed ok from q number time = either ok _
    (Leads_then {Q = In ok} (posts_back from Ack number) (reading next_number (λ n. posts_time q SetDateReq n time)) (back ok from Ack number refl)
    (Leads_reading next_number (λ n. posts_time q SetDateReq n time) (λ n. Leads_from (λ x past h. h.0) (timed_post ok q SetDateReq n time refl))))
    Leads_nothing

dated : (from : Place) (number : ℕ) (time : ℤ) → Leads (In is_master) (sets_date_where from number time) (In is_master)
unfolding sets_date_where new_date sets leaves_all leaves
dated from number time = either is_master (may_date time)
    (Leads_then {Q = In is_master} (sets time) (posts_back from DateAck number followed_by (reading table_at (for_each leaves) followed_by
    posts_to_others MasterUp 0)) (record { run = λ x past h. plain is_master _ refl x past h })
    (Leads_then {Q = In is_master} (posts_back from DateAck number) (reading table_at (for_each leaves) followed_by posts_to_others MasterUp 0)
    (back is_master from DateAck number refl)
    (Leads_then {Q = In is_master} (reading table_at (for_each leaves)) (posts_to_others MasterUp 0)
    (Leads_reading table_at (for_each leaves) (λ ps. Leads_from (λ x past h. h.0) (Leads_each leaves ps (λ p. does_plain is_master (Leave p) refl))))
    (told_rule MasterUp refl))))
    Leads_nothing

date_role : (from : Place) (number : ℕ) (time : ℤ) (r : Role) → Leads (λ x past. In any_role x past × (role_at x past ≡ r)) (date_in from number time r)
    (In any_role)
unfolding date_in
date_role from number time (Follow q) = Leads_from (λ x past h. h.0) (passed any_role from q number time)
date_role from number time Master = Leads_from {Q = In is_master} (λ x past h. (h.0.0, ap is_master h.1))
    (Leads_to (λ x past h. (h.0, refl)) (dated from number time))
date_role from number time _ = Leads_from (λ x past h. h.0) Leads_nothing

date : (charge : Bool) (from : Place) (m : MessageValue) → Leads (In any_role) (date_of charge from m) (In any_role)
unfolding date_of
date true from m = Leads_reading role_at (date_in from m.number (time_in m.body)) (λ r. date_role from m.number (time_in m.body) r)
date false from m = Leads_nothing

request : (charge : Bool) (m : MessageValue) (p : PeerId) → Leads (In any_role) (date_request_of charge m p) (In any_role)
unfolding date_request_of date_request_in sets_in_charge
request charge m p = Leads_reading role_at _ (λ r. by_role r) where
  in_charge : (b : Bool) → Leads (In is_master) (sets_in_charge b p m) (In is_master)
  in_charge true = dated (Peer p) m.number (time_in m.body)
  in_charge false = Leads_nothing

  by_role : (r : Role) → Leads (λ x past. In any_role x past × (role_at x past ≡ r)) (date_request_in charge m p r) (In any_role)
  by_role Master = Leads_from {Q = In is_master} (λ x past h. (h.0.0, ap is_master h.1))
      (Leads_to (λ x past h. (h.0, refl)) (either is_master (is_dated p m.number) (posted is_master p DateAck m.number refl) (in_charge charge)))
  by_role _ = Leads_from (λ x past h. h.0) Leads_nothing

-- all kinds

kinds : (charge : Bool) (from : Place) (m : MessageValue) (k : Kind) → m.kind ≡ k → Leads (TookFrom from (Good (Message m))) (handles_kind charge from m k) Base
unfolding handles_kind
kinds charge from m Msite is = just from _ (from_any (named from m.number))
kinds charge from m MsiteReq is = just from _ (from_any (says_so from m.number))
kinds charge from m TraceOn is = just from _ (from_any (traced from m.number true))
kinds charge from m TraceOff is = just from _ (from_any (traced from m.number false))
kinds charge from m Test is = tested from m is
kinds charge from m Date is = just from _ (from_any (date charge from m))
kinds charge from m SetDate is = just from _ (from_any (date charge from m))
kinds charge from m DateReq is = peer from m (date_request_of charge m) (λ p. Leads_from (λ x past h. h.0) (from_any (request charge m p)))
kinds charge from m SetDateReq is = peer from m (date_request_of charge m) (λ p. Leads_from (λ x past h. h.0) (from_any (request charge m p)))
kinds charge from m DateAck is = peer from m (date_acked m) (λ p. Leads_from (λ x past h. h.0)
    (from_any (calm_built any_role {sorts = Acking ∷ []} refl refl (built_date_acked m p tt))))
kinds charge from m LoopKind is = just from _ Leads_nothing
kinds charge from m _ is = peer from m (peer_says m) (peer_says_holds m)

replied : (from : Place) (r : ReplyValue) → Leads Base (from_peer from (peer_replies r)) Base
unfolding from_peer
replied (Peer p) r = Leads_either (is_heard p) (peer_replies r p) nothing
    (Leads_from (λ x past h. h.0) (from_any (calm_built any_role {sorts = Sampling ∷ []} refl refl (built_peer_replies r p tt tt))))
    (Leads_from (λ x past h. h.0) Leads_nothing)
replied Stranger r = Leads_nothing

stamp_plain : (from : Place) (r : ReplyValue) → is_plain (Post from (Stamp (Reply r))) ≡ true
stamp_plain (Peer p) r = refl
stamp_plain Stranger r = refl

stamped : (from : Place) (word counter : ℕ) → Leads (In any_role) (replies from word counter) (In any_role)
unfolding replies posts_reply
stamped from word counter = either any_role is_in_range (record { run = λ x past h. plain any_role _ (stamp_plain from _) x past h }) Leads_nothing

handled : (steer charge : Bool) (from : Place) (t : Taken) → Leads (TookFrom from t) (handles steer charge from t) Base
unfolding handles
handled steer charge from (Bad fault) = just from _ Leads_nothing
handled steer charge from (Good (Message m)) = Leads_either (is_left steer m.kind) nothing (handles_kind charge from m m.kind)
    (Leads_from (λ x past h. h.0.0) Leads_nothing) (Leads_from (λ x past h. h.0) (kinds charge from m m.kind refl))
handled steer charge from (Good (Stamp (Request word counter))) = just from _ (from_any (stamped from word counter))
handled steer charge from (Good (Stamp (Reply r))) = just from _ (replied from r)

pub takes_moved : (steer charge : Bool) (from : Place) (t : Taken) → Leads Base (takes steer charge from t) Base
unfolding takes
takes_moved steer charge from t = Leads_then {Q = TookFrom from t} (puts (Took from t)) (either_by (is_own from) nothing (handles steer charge from t))
    (Leads_puts (Took from t) (λ x past h. ((plain any_role (Took from t) refl x past (h, refl)).0, refl)))
    (Leads_either (is_own from) nothing (handles steer charge from t) (Leads_from (λ x past h. h.0.0) Leads_nothing)
    (Leads_from (λ x past h. h.0) (handled steer charge from t)))

-- LOOPs, which are for the node

pub took_moved : (from : Place) (t : Taken) → Leads Base (puts (Took from t)) Base
took_moved from t = from_any (does_plain any_role (Took from t) refl)

pub abandons_moved : Leads Base (puts Abandon) Base
abandons_moved = from_any (does_plain any_role Abandon refl)

pub gives_up_moved : Leads Base loosens_master Base
unfolding loosens_master
gives_up_moved = Leads_either is_master_at yields nothing (yield (λ x past h. (h.0, master_busy (role past.seen) h.1)))
    (Leads_from (λ x past h. h.0) Leads_nothing)

each_plain : (f : PeerId → Act) → ((p : PeerId) → is_plain (f p) ≡ true) → (x : ℕ) (past : Past) (ps : List PeerId) → Base x past →
    Base x (grown x past (map f ps))
each_plain f e x past [] h = h
each_plain f e x past (p ∷ ps) h = each_plain f e x (grown x past (f p ∷ [])) ps (plain any_role (f p) (e p) x past (h, refl)).0

pub loops_moved : (q : Port) → Leads Base (sends_loops q) Base
unfolding sends_loops
loops_moved q = record { run = λ x past h. each_plain (loop_to q past.name) (λ p. refl) x past (others past.own past.peers) h }

pub reposts_moved : (m : MessageValue) → m.kind ≡ LoopKind → Leads Base (reposts m) Base
unfolding reposts
reposts_moved m is = record { run = λ x past h. each_plain (repost m) (λ p. ap is_common is) x past (others past.own past.peers) h }
