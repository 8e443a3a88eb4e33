-- A candidate's send ends by an answer with its number.
use Rattle.std.proofs.Common.{sym, ap, subst, inl, inr, true≢false, eqb-true, ◌∙◌, ◌≡◌, ◌⊎◌, ℕ, ℤ, ◌==◌, Bool, true, false, List, [], ◌∷◌}
use Rattle.std.proofs.Common.{Some, refl}
use Rattle.tsp_rules.specs.Values.{Act, Acked, Backer, Post, Took, Message, Stamp, Request, Reply, Good, Bad, Taken, Alarm, CloseAlarm, Kind, Accept, Ack}
use Rattle.tsp_rules.specs.Values.{AdjTime, Conflict, Date, DateAck, DateReq, Election, LoopKind, MasterAck, MasterReq, MasterUp, Msite, MsiteReq, QuitKind}
use Rattle.tsp_rules.specs.Values.{Refuse, ResolveKind, SetDate, SetDateReq, SetTime, SlaveUp, Test, TraceOff, TraceOn, PeerId, Place, Peer, Stranger, Role}
use Rattle.tsp_rules.specs.Values.{Starting, Follow, Candidate, Master}
use Rattle.tsp_rules.specs.Answers.{from_peer, handles, handles_kind, is_left, peer_replies, peer_says, rings, says_in, takes}
use Rattle.tsp_rules.specs.CandidateRows.{accepted_by, candidate_takes, candidate_takes_kind, refused_by, yields}
use Rattle.tsp_rules.specs.DateRows.{date_acked, date_acked_in, date_in, date_of, date_request_in, date_request_of, has_date, is_dated, may_date, new_date}
use Rattle.tsp_rules.specs.DateRows.{answers_date, sets_date_where, sets_in_charge}
use Rattle.tsp_rules.specs.{Guards.is_heard, Guards.is_own, Guards.role_at}
use Rattle.tsp_rules.specs.MasterRows.{master_takes, master_takes_kind}
use Rattle.tsp_rules.specs.ResolveRows.{resolves}
use Rattle.tsp_rules.specs.SendRows.{acknowledges, answers_election, answers_other, due_sends, has_election, has_other}
use Rattle.tsp_rules.specs.SlaveRows.{slave_takes, slave_takes_kind}
use Rattle.tsp_base.specs.Words.{Acts, Did, Here, Leads, MessageValue, Past, Row, Seen, either_by, nothing, open_send, open_to, ReplyValue}
use Rattle.tsp_base.specs.Words.{posts, posts_of, puts, sending_at, taken, time_in, ◌followed_by◌}
use Rattle.tsp_base.proofs.LeadsLemmas.{Leads_either, Leads_from, Leads_nothing, Leads_puts, Leads_reading, Leads_then}
use Rattle.tsp_rules.proofs.Emits.{Sort, Acking, Correcting, Numbering, Posting, Rivalling, Sampling, Tabling, Tracing, Emits_posts}
use Rattle.tsp_rules.proofs.Emits.{is_in, is_in_own, is_part, sort_of, sort_of_kind}
use Rattle.tsp_rules.proofs.{BuiltSends.built_due_sends, BuiltSends.send_sorts, EmitsBuilt.emits_built, EmitsBuilt.nothing_owed}
use Rattle.tsp_rules.proofs.{Built.Built, Unchanged.place_unchanged, Unchanged.unchanged}
use Rattle.tsp_rules.proofs.BuiltAnswers.{built_new_date, built_passes_on, built_peer_replies, built_rings, pass_sorts, ring_sorts, set_sorts}
use Rattle.tsp_rules.proofs.BuiltShared.{built_names_master, built_quits, built_replies, built_says_master, built_tests, built_traces, quit_sorts}
use Rattle.tsp_rules.proofs.BuiltShared.{standing_sorts}
use Rattle.tsp_rules.proofs.BuiltRoles.{built_candidate_takes_kind, built_finds_rival, built_joins, built_resolves, built_sends_away, built_slave_takes_kind}
use Rattle.tsp_rules.proofs.BuiltRoles.{built_yields, candidate_sorts, question_sorts, slave_sorts, yield_sorts}
use Rattle.tsp_run.specs.Clocked.{clocks_of}
use Rattle.tsp_run.proofs.OwnClocks.{runs_by_own_clocks}
use Rattle.tsp_progress.specs.Decided.{AllDecided, ClockedRunsDecide, DecidedFits, RunsDecide}
use Rattle.tsp_progress.specs.GivenUp.{Owes}
use Rattle.tsp_progress.proofs.{DebtKeeps.OwedBy, DebtKeeps.Paid, DebtKeeps.pays, DebtKeeps.runs_pay}

unacked : (sorts : List Sort) → is_in Acking sorts ≡ false → (a : Act) → is_in (sort_of a) sorts ≡ true → (d : Did) (before : List Seen) →
    DecidedFits (Acts a) d before
unacked sorts none (Acked p) e d before = absurd (true≢false (sym e ∙ none))
unacked sorts none _ e d before = tt

by_acking : OwedBy Acking DecidedFits
by_acking = record { mark = λ d before. tt; free = unacked }

calm : {sorts : List Sort} {k c : ℕ} {r r' : Row} → is_in Acking sorts ≡ false → is_part sorts sorts ≡ true → Built unchanged nothing_owed sorts k c r r' →
    Leads (Paid DecidedFits) r (Paid DecidedFits)
calm {sorts} {r = r} none part d = pays by_acking sorts r none (emits_built part d)

ring_part : (a : Alarm) → is_part (ring_sorts a) (ring_sorts a) ≡ true
ring_part CloseAlarm = refl
ring_part _ = refl

ring_apart : (a : Alarm) → is_in Acking (ring_sorts a) ≡ false
ring_apart CloseAlarm = refl
ring_apart _ = refl

rung : (own wait : Bool) (a : Alarm) → Leads (Paid DecidedFits) (rings own wait a) (Paid DecidedFits)
rung own wait a = calm (ring_apart a) (ring_part a) (built_rings own wait a)

sends : Leads (Paid DecidedFits) due_sends (Paid DecidedFits)
sends = calm {sorts = send_sorts} refl refl built_due_sends

-- the open send that an ELECTION is
open_election : (p : PeerId) (seen : List Seen) (first : Did) (older : List Seen) (m : MessageValue) → open_to p seen ≡ Here first ∷ older → first.deed ≡
    Acts (Post (Peer p) (Message m)) → open_send p seen ≡ Some (record { began = first.tick; posts = posts_of p seen; message = m })
open_election p seen first older m e is = ap (λ s. sending_at s (posts_of p seen)) e ∙ rw is refl

-- an ACK and a DATEACK end no ELECTION
no_other : (p : PeerId) (number : ℕ) (seen : List Seen) → answers_other number (open_send p seen) ≡ true → (d : Did) → DecidedFits (Acts (Acked p)) d seen
no_other p number seen has d first older m e is kind =
    let other : answers_other number (open_send p seen) ≡ false = ap (answers_other number) (open_election p seen first older m e is) ∙ rw kind refl in
    absurd (true≢false (sym has ∙ other))

no_date : (p : PeerId) (number : ℕ) (seen : List Seen) → answers_date number (open_send p seen) ≡ true → (d : Did) → DecidedFits (Acts (Acked p)) d seen
no_date p number seen has d first older m e is kind =
    let other : answers_date number (open_send p seen) ≡ false = ap (answers_date number) (open_election p seen first older m e is) ∙ rw kind refl in
    absurd (true≢false (sym has ∙ other))

-- the step has taken this message of p
abbrev pub Taking : PeerId → MessageValue → ℕ → Past → Type 0
Taking p m x past = Owes DecidedFits past.seen × (taken past.seen ≡ Some (record { from = Peer p; taken = Good (Message m) }))

decided : (p : PeerId) (m : MessageValue) (x : ℕ) (past : Past) → (m.kind ≡ Accept) ⊎ (m.kind ≡ Refuse) → Taking p m x past → has_election p m.number x past ≡
    true → (d : Did) → DecidedFits (Acts (Acked p)) d past.seen
decided p m x past kind h has d first older asked e is election =
    let own : answers_election m.number (open_send p past.seen) ≡ (asked.number == m.number) =
    ap (answers_election m.number) (open_election p past.seen first older asked e is) ∙ rw election refl in
    record { answer = m; took = h.1; kind = kind; number_is = sym (eqb-true asked.number m.number (sym own ∙ has)) }

accepts : (p : PeerId) (m : MessageValue) → m.kind ≡ Accept → Leads (Taking p m) (accepted_by p m.number) (Paid DecidedFits)
unfolding accepted_by
accepts p m kind = Leads_either (has_election p m.number) (puts (Acked p) followed_by puts (Backer p)) nothing
    (Leads_then {Q = Paid DecidedFits} (puts (Acked p)) (puts (Backer p))
    (Leads_puts (Acked p) (λ x past h. (decided p m x past (inl kind) h.0 h.1 (record { step = past.step; tick = x; deed = Acts (Acked p) }), h.0.0)))
    (Leads_puts (Backer p) (λ x past h. (tt, h))))
    (Leads_from (λ x past h. h.0.0) Leads_nothing)

yield : Leads (Paid DecidedFits) yields (Paid DecidedFits)
yield = calm {sorts = yield_sorts} refl refl built_yields

refuses : (p : PeerId) (m : MessageValue) → m.kind ≡ Refuse → Leads (Taking p m) (refused_by p m.number) (Paid DecidedFits)
unfolding refused_by
refuses p m kind = Leads_either (has_election p m.number) (puts (Acked p) followed_by yields) nothing
    (Leads_then {Q = Paid DecidedFits} (puts (Acked p)) yields (Leads_puts (Acked p)
    (λ x past h. (decided p m x past (inr kind) h.0 h.1 (record { step = past.step; tick = x; deed = Acts (Acked p) }), h.0.0))) yield)
    (Leads_from (λ x past h. h.0.0) Leads_nothing)

acks : (p : PeerId) (number : ℕ) → Leads (Paid DecidedFits) (acknowledges p number) (Paid DecidedFits)
unfolding acknowledges
acks p number = Leads_either (has_other p number) (puts (Acked p)) nothing (Leads_puts (Acked p)
    (λ x past h. (no_other p number past.seen h.1 (record { step = past.step; tick = x; deed = Acts (Acked p) }), h.0)))
    (Leads_from (λ x past h. h.0) Leads_nothing)

-- by the role
slave : (p : PeerId) (m : MessageValue) (k : Kind) → Leads (Paid DecidedFits) (slave_takes_kind p m k) (Paid DecidedFits)
unfolding slave_takes_kind
slave p m Ack = acks p m.number
slave p m AdjTime = calm {sorts = slave_sorts AdjTime} refl refl (built_slave_takes_kind p m AdjTime tt tt)
slave p m SetTime = calm {sorts = slave_sorts SetTime} refl refl (built_slave_takes_kind p m SetTime tt tt)
slave p m MasterUp = calm {sorts = slave_sorts MasterUp} refl refl (built_slave_takes_kind p m MasterUp tt tt)
slave p m MasterAck = calm {sorts = slave_sorts MasterAck} refl refl (built_slave_takes_kind p m MasterAck tt tt)
slave p m Election = calm {sorts = slave_sorts Election} refl refl (built_slave_takes_kind p m Election tt tt)
slave p m QuitKind = calm {sorts = quit_sorts} refl refl (built_quits p m.number tt tt)
slave p m _ = Leads_nothing

candidate : (p : PeerId) (m : MessageValue) (k : Kind) → m.kind ≡ k → Leads (Taking p m) (candidate_takes_kind p m k) (Paid DecidedFits)
unfolding candidate_takes_kind
candidate p m Accept is = accepts p m is
candidate p m Refuse is = refuses p m is
candidate p m Ack is = Leads_from (λ x past h. h.0) (acks p m.number)
candidate p m MasterUp is = Leads_from (λ x past h. h.0) (calm {sorts = candidate_sorts MasterUp} refl refl (built_candidate_takes_kind p m MasterUp tt tt))
candidate p m MasterAck is = Leads_from (λ x past h. h.0) (calm {sorts = candidate_sorts MasterAck} refl refl (built_candidate_takes_kind p m MasterAck tt tt))
candidate p m Election is = Leads_from (λ x past h. h.0) (calm {sorts = candidate_sorts Election} refl refl (built_candidate_takes_kind p m Election tt tt))
candidate p m QuitKind is = Leads_from (λ x past h. h.0) (calm {sorts = quit_sorts} refl refl (built_quits p m.number tt tt))
candidate p m _ is = Leads_from (λ x past h. h.0) Leads_nothing

posted : (p : PeerId) (k : Kind) (number : ℕ) → is_in Acking (sort_of_kind k ∷ []) ≡ false → Leads (Paid DecidedFits) (posts p k number) (Paid DecidedFits)
posted p k number none = pays by_acking (sort_of_kind k ∷ []) (posts p k number) none (Emits_posts p k number (is_in_own (sort_of_kind k)))

resolve : Leads (Paid DecidedFits) resolves (Paid DecidedFits)
resolve = calm {sorts = question_sorts} refl refl built_resolves

master : (p : PeerId) (m : MessageValue) (k : Kind) → Leads (Paid DecidedFits) (master_takes_kind p m k) (Paid DecidedFits)
unfolding master_takes_kind
master p m MasterReq = posted p MasterAck m.number refl
master p m ResolveKind = posted p MasterAck m.number refl
master p m SlaveUp = calm {sorts = Correcting ∷ Tabling ∷ []} refl refl (built_joins p m.number tt tt)
master p m Election = calm {sorts = Numbering ∷ []} refl refl (built_sends_away p tt)
master p m MasterUp = resolve
master p m Conflict = Leads_then {Q = Paid DecidedFits} (posts p Ack m.number) resolves (posted p Ack m.number refl) resolve
master p m MasterAck = calm {sorts = Rivalling ∷ []} refl refl (built_finds_rival p tt)
master p m QuitKind = calm {sorts = quit_sorts} refl refl (built_quits p m.number tt tt)
master p m Ack = acks p m.number
master p m _ = Leads_nothing

says : (p : PeerId) (m : MessageValue) (r : Role) → Leads (Taking p m) (says_in p m r) (Paid DecidedFits)
unfolding says_in slave_takes candidate_takes master_takes
says p m Starting = Leads_from (λ x past h. h.0) Leads_nothing
says p m Candidate = candidate p m m.kind refl
says p m Master = Leads_from (λ x past h. h.0) (master p m m.kind)
says p m _ = Leads_from (λ x past h. h.0) (slave p m m.kind)

-- dates
date_where : (from : Place) (number : ℕ) (time : ℤ) → Leads (Paid DecidedFits) (sets_date_where from number time) (Paid DecidedFits)
unfolding sets_date_where
date_where from number time = Leads_either (may_date time) (new_date from number time) nothing
    (Leads_from (λ x past h. h.0) (calm {sorts = set_sorts} refl refl (built_new_date number time tt tt from (place_unchanged from) tt)))
    (Leads_from (λ x past h. h.0) Leads_nothing)

date_in_holds : (from : Place) (number : ℕ) (time : ℤ) (r : Role) → Leads (Paid DecidedFits) (date_in from number time r) (Paid DecidedFits)
unfolding date_in
date_in_holds from number time (Follow q) = calm {sorts = pass_sorts} refl refl (built_passes_on number time tt tt from q (place_unchanged from) tt tt)
date_in_holds from number time Master = date_where from number time
date_in_holds from number time _ = Leads_nothing

date_of_holds : (charge : Bool) (from : Place) (m : MessageValue) → Leads (Paid DecidedFits) (date_of charge from m) (Paid DecidedFits)
unfolding date_of
date_of_holds true from m = Leads_reading role_at (date_in from m.number (time_in m.body)) (λ r. Leads_from (λ x past h. h.0)
    (date_in_holds from m.number (time_in m.body) r))
date_of_holds false from m = Leads_nothing

in_charge : (charge : Bool) (p : PeerId) (m : MessageValue) → Leads (Paid DecidedFits) (sets_in_charge charge p m) (Paid DecidedFits)
unfolding sets_in_charge
in_charge true p m = date_where (Peer p) m.number (time_in m.body)
in_charge false p m = Leads_nothing

request_in : (charge : Bool) (m : MessageValue) (p : PeerId) (r : Role) → Leads (Paid DecidedFits) (date_request_in charge m p r) (Paid DecidedFits)
unfolding date_request_in
request_in charge m p Master = Leads_either (is_dated p m.number) (posts p DateAck m.number) (sets_in_charge charge p m)
    (Leads_from (λ x past h. h.0) (posted p DateAck m.number refl)) (Leads_from (λ x past h. h.0) (in_charge charge p m))
request_in charge m p _ = Leads_nothing

request : (charge : Bool) (m : MessageValue) (p : PeerId) → Leads (Paid DecidedFits) (date_request_of charge m p) (Paid DecidedFits)
unfolding date_request_of
request charge m p = Leads_reading role_at (date_request_in charge m p) (λ r. Leads_from (λ x past h. h.0) (request_in charge m p r))

date_acked_holds : (m : MessageValue) (p : PeerId) (r : Role) → Leads (Paid DecidedFits) (date_acked_in m p r) (Paid DecidedFits)
unfolding date_acked_in
date_acked_holds m p (Follow q) = Leads_either (has_date p m.number) (puts (Acked p)) nothing
    (Leads_puts (Acked p) (λ x past h. (no_date p m.number past.seen h.1 (record { step = past.step; tick = x; deed = Acts (Acked p) }), h.0)))
    (Leads_from (λ x past h. h.0) Leads_nothing)
date_acked_holds m p _ = Leads_nothing

dated : (m : MessageValue) (p : PeerId) → Leads (Paid DecidedFits) (date_acked m p) (Paid DecidedFits)
unfolding date_acked
dated m p = Leads_reading role_at (date_acked_in m p) (λ r. Leads_from (λ x past h. h.0) (date_acked_holds m p r))

-- what is taken
abbrev pub TookFrom : Place → Taken → ℕ → Past → Type 0
TookFrom from t x past = Owes DecidedFits past.seen × (taken past.seen ≡ Some (record { from = from; taken = t }))

peer : (from : Place) (m : MessageValue) (row : PeerId → Row) → ((p : PeerId) → Leads (Taking p m) (row p) (Paid DecidedFits)) →
    Leads (TookFrom from (Good (Message m))) (from_peer from row) (Paid DecidedFits)
unfolding from_peer
peer (Peer p) m row d = Leads_either (is_heard p) (row p) nothing (Leads_from (λ x past h. h.0) (d p)) (Leads_from (λ x past h. h.0.0) Leads_nothing)
peer Stranger m row d = Leads_from (λ x past h. h.0) Leads_nothing

peer_says_holds : (m : MessageValue) (p : PeerId) → Leads (Taking p m) (peer_says m p) (Paid DecidedFits)
unfolding peer_says
peer_says_holds m p = Leads_reading role_at (says_in p m) (λ r. Leads_from (λ x past h. h.0) (says p m r))

just : {row : Row} (from : Place) (t : Taken) → Leads (Paid DecidedFits) row (Paid DecidedFits) → Leads (TookFrom from t) row (Paid DecidedFits)
just from t d = Leads_from (λ x past h. h.0) d

kinds : (charge : Bool) (from : Place) (m : MessageValue) (k : Kind) → Leads (TookFrom from (Good (Message m))) (handles_kind charge from m k)
    (Paid DecidedFits)
unfolding handles_kind
kinds charge from m Msite = just from _ (calm {sorts = Posting ∷ []} refl refl (built_names_master from m.number (place_unchanged from) tt tt))
kinds charge from m MsiteReq = just from _ (calm {sorts = Posting ∷ []} refl refl (built_says_master from m.number (place_unchanged from) tt tt))
kinds charge from m TraceOn = just from _ (calm {sorts = Tracing ∷ Posting ∷ []} refl refl (built_traces from m.number (place_unchanged from) tt tt true))
kinds charge from m TraceOff = just from _ (calm {sorts = Tracing ∷ Posting ∷ []} refl refl (built_traces from m.number (place_unchanged from) tt tt false))
kinds charge from m Test = just from _ (calm {sorts = standing_sorts} refl refl (built_tests from m.number (place_unchanged from) tt tt))
kinds charge from m Date = just from _ (date_of_holds charge from m)
kinds charge from m SetDate = just from _ (date_of_holds charge from m)
kinds charge from m DateReq = peer from m (date_request_of charge m) (λ p. Leads_from (λ x past h. h.0) (request charge m p))
kinds charge from m SetDateReq = peer from m (date_request_of charge m) (λ p. Leads_from (λ x past h. h.0) (request charge m p))
kinds charge from m DateAck = peer from m (date_acked m) (λ p. Leads_from (λ x past h. h.0) (dated m p))
kinds charge from m LoopKind = just from _ Leads_nothing
kinds charge from m _ = peer from m (peer_says m) (peer_says_holds m)

replied : (from : Place) (r : ReplyValue) → Leads (Paid DecidedFits) (from_peer from (peer_replies r)) (Paid DecidedFits)
unfolding from_peer
replied (Peer p) r = Leads_either (is_heard p) (peer_replies r p) nothing
    (Leads_from (λ x past h. h.0) (calm {sorts = Sampling ∷ []} refl refl (built_peer_replies r p tt tt))) (Leads_from (λ x past h. h.0) Leads_nothing)
replied Stranger r = Leads_nothing

handled : (steer charge : Bool) (from : Place) (t : Taken) → Leads (TookFrom from t) (handles steer charge from t) (Paid DecidedFits)
unfolding handles
handled steer charge from (Bad fault) = just from _ Leads_nothing
handled steer charge from (Good (Message m)) = Leads_either (is_left steer m.kind) nothing (handles_kind charge from m m.kind)
    (Leads_from (λ x past h. h.0.0) Leads_nothing) (Leads_from (λ x past h. h.0) (kinds charge from m m.kind))
handled steer charge from (Good (Stamp (Request word counter))) = just from _
    (calm {sorts = Posting ∷ []} refl refl (built_replies from word counter (place_unchanged from) tt tt))
handled steer charge from (Good (Stamp (Reply r))) = just from _ (replied from r)

took : (steer charge : Bool) (from : Place) (t : Taken) → Leads (Paid DecidedFits) (takes steer charge from t) (Paid DecidedFits)
unfolding takes
took steer charge from t = Leads_then {Q = TookFrom from t} (puts (Took from t)) (either_by (is_own from) nothing (handles steer charge from t))
    (Leads_puts (Took from t) (λ x past h. ((tt, h), refl)))
    (Leads_either (is_own from) nothing (handles steer charge from t) (Leads_from (λ x past h. h.0.0) Leads_nothing)
    (Leads_from (λ x past h. h.0) (handled steer charge from t)))

pub clocked_runs_decide : ClockedRunsDecide
clocked_runs_decide clocks header events n q = runs_pay by_acking refl sends rung took clocks header events n q

pub runs_decide : RunsDecide
runs_decide header events = subst (λ h. AllDecided h) (runs_by_own_clocks header events) (clocked_runs_decide (clocks_of header) header events)
