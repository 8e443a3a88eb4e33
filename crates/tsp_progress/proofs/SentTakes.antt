-- So in every run a correction comes from a Join, a close of a round, or is posted again.
use Rattle.std.proofs.Common.{sym, true≢false, ◌≡◌, inl, ℕ}
use Rattle.std.proofs.Common.{Bool, true, false, List, [], ◌∷◌, refl}
use Rattle.tsp_rules.specs.Values.{Join, Took, PeerId, Place, Peer, Stranger, Port}
use Rattle.tsp_rules.specs.Values.{Role, Starting, Loose, Follow, Candidate, Master, Message, Stamp, Taken, Good, Bad, Request, Reply}
use Rattle.tsp_rules.specs.Values.{Kind, Ack, Conflict, Date, DateAck, DateReq, Election, LoopKind, MasterAck, MasterReq, MasterUp, Msite, MsiteReq}
use Rattle.tsp_rules.specs.Values.{QuitKind, ResolveKind, SetDate, SetDateReq, SetTime, SlaveUp, Test, TraceOff, TraceOn, Event}
use Rattle.tsp_base.specs.Words.{Acts, HeaderValue, Leads, MessageValue, Past, Row, either_by}
use Rattle.tsp_base.specs.Words.{nothing, of, posts, posts_time, puts, reading, view}
use Rattle.tsp_base.specs.Words.{◌followed_by◌}
use Rattle.tsp_base.proofs.LeadsLemmas.{Leads_either, Leads_from, Leads_nothing, Leads_puts, Leads_reading, Leads_then}
use Rattle.tsp_rules.specs.Answers.{from_peer, handles, handles_kind, is_left, peer_replies, peer_says, says_in, takes}
use Rattle.tsp_rules.specs.{DateRows.date_acked, DateRows.date_request_of}
use Rattle.tsp_rules.specs.Guards.{is_heard, is_own, role_at, target_at}
use Rattle.tsp_rules.specs.MasterRows.{joins, master_takes, master_takes_kind, may_join}
use Rattle.tsp_rules.specs.SendRows.{begins_settime, may_set}
use Rattle.tsp_rules.proofs.BuiltAnswers.{built_date_acked, built_date_of, built_date_request_of, built_peer_replies, date_sorts}
use Rattle.tsp_rules.proofs.BuiltRoles.{all_candidate_sorts, built_candidate_takes, built_conflict, built_finds_rival, built_resolves, built_sends_away}
use Rattle.tsp_rules.proofs.BuiltRoles.{built_slave_takes, question_sorts, slave_sorts}
use Rattle.tsp_rules.proofs.BuiltShared.{built_acknowledges, built_names_master, built_quits, built_replies, built_says_master, built_tests, built_traces}
use Rattle.tsp_rules.proofs.BuiltShared.{quit_sorts, standing_sorts}
use Rattle.tsp_rules.proofs.{Unchanged.place_unchanged}
use Rattle.tsp_rules.proofs.Emits.{Acking, Correcting, Numbering, Posting, Rivalling, Sampling, Tracing, is_in, is_part}
use Rattle.tsp_run.specs.Clocked.{Clocks, run_by}
use Rattle.tsp_progress.specs.GivenUp.{Owes}
use Rattle.tsp_progress.proofs.{DebtKeeps.Paid, DebtKeeps.runs_pay}
use Rattle.tsp_progress.proofs.SentRows.{Base, JoinedNow, SentFits, by_correcting, calm_built, rung, sends}

-- what is taken

-- p has just joined
record Joined (p : PeerId) (x : ℕ) (past : Past) : Type 0 where
  pub paid : Paid SentFits x past
  pub joined : JoinedNow p past.step past.seen

settime : (p : PeerId) (number : ℕ) → Leads (Joined p) (begins_settime p number) Base
unfolding begins_settime posts_time
settime p number = Leads_either (may_set p number) (reading target_at (posts_time p SetTime number)) nothing
    (Leads_from (λ x past h. h.0) (Leads_reading target_at (posts_time p SetTime number) (λ time. record {
      run = λ x past h. (λ c. inl h.0.joined, h.0.paid);
    })))
    (Leads_from (λ x past h. h.0.paid) Leads_nothing)

joining : (p : PeerId) (number : ℕ) → Leads Base (joins p number) Base
unfolding joins
joining p number = Leads_either (may_join p number) (puts (Join p) followed_by begins_settime p number) nothing
    (Leads_then {Q = Joined p} (puts (Join p)) (begins_settime p number)
    (Leads_puts (Join p) (λ x past h. record {
      paid = (tt, h.0);
      joined = record { join = record { step = past.step; tick = x; deed = Acts (Join p) }; older = past.seen; is = refl; deed = refl; same = refl };
    }))
    (settime p number))
    (Leads_from (λ x past h. h.0) Leads_nothing)

answers : (p : PeerId) (number : ℕ) → Leads Base (posts p MasterAck number) Base
unfolding posts
answers p number = record { run = λ x past h. (λ c. absurd (true≢false (sym c)), h) }

master : (p : PeerId) (m : MessageValue) (k : Kind) → Leads Base (master_takes_kind p m k) Base
unfolding master_takes_kind
master p m SlaveUp = joining p m.number
master p m MasterReq = answers p m.number
master p m ResolveKind = answers p m.number
master p m Election = calm_built {sorts = Numbering ∷ []} refl refl (built_sends_away p tt)
master p m MasterUp = calm_built {sorts = question_sorts} refl refl built_resolves
master p m Conflict = calm_built {sorts = question_sorts} refl refl (built_conflict p m.number tt tt)
master p m MasterAck = calm_built {sorts = Rivalling ∷ []} refl refl (built_finds_rival p tt)
master p m QuitKind = calm_built {sorts = quit_sorts} refl refl (built_quits p m.number tt tt)
master p m Ack = calm_built {sorts = Acking ∷ []} refl refl (built_acknowledges p m.number tt)
master p m _ = Leads_nothing

slave_part : (k : Kind) → is_part (slave_sorts k) (slave_sorts k) ≡ true
slave_part Ack = refl
slave_part _ = refl

slave_apart : (k : Kind) → is_in Correcting (slave_sorts k) ≡ false
slave_apart Ack = refl
slave_apart _ = refl

says : (p : PeerId) (m : MessageValue) (r : Role) → Leads Base (says_in p m r) Base
unfolding says_in master_takes
says p m Starting = Leads_nothing
says p m Loose = calm_built {sorts = slave_sorts m.kind} (slave_part m.kind) (slave_apart m.kind) (built_slave_takes p m tt tt)
says p m (Follow q) = calm_built {sorts = slave_sorts m.kind} (slave_part m.kind) (slave_apart m.kind) (built_slave_takes p m tt tt)
says p m Candidate = calm_built {sorts = all_candidate_sorts} refl refl (built_candidate_takes p m tt tt)
says p m Master = master p m m.kind

peer_says_holds : (m : MessageValue) (p : PeerId) → Leads Base (peer_says m p) Base
unfolding peer_says
peer_says_holds m p = Leads_reading role_at (says_in p m) (λ r. Leads_from (λ x past h. h.0) (says p m r))

peer : (from : Place) (row : PeerId → Row) → ((p : PeerId) → Leads Base (row p) Base) → Leads Base (from_peer from row) Base
unfolding from_peer
peer (Peer p) row d = Leads_either (is_heard p) (row p) nothing (Leads_from (λ x past h. h.0) (d p)) (Leads_from (λ x past h. h.0) Leads_nothing)
peer Stranger row d = Leads_nothing

kinds : (charge : Bool) (from : Place) (m : MessageValue) (k : Kind) → Leads Base (handles_kind charge from m k) Base
unfolding handles_kind
kinds charge from m Msite = calm_built {sorts = Posting ∷ []} refl refl (built_names_master from m.number (place_unchanged from) tt tt)
kinds charge from m MsiteReq = calm_built {sorts = Posting ∷ []} refl refl (built_says_master from m.number (place_unchanged from) tt tt)
kinds charge from m TraceOn = calm_built {sorts = Tracing ∷ Posting ∷ []} refl refl (built_traces from m.number (place_unchanged from) tt tt true)
kinds charge from m TraceOff = calm_built {sorts = Tracing ∷ Posting ∷ []} refl refl (built_traces from m.number (place_unchanged from) tt tt false)
kinds charge from m Test = calm_built {sorts = standing_sorts} refl refl (built_tests from m.number (place_unchanged from) tt tt)
kinds charge from m Date = calm_built {sorts = date_sorts} refl refl (built_date_of charge m tt tt from (place_unchanged from) tt)
kinds charge from m SetDate = calm_built {sorts = date_sorts} refl refl (built_date_of charge m tt tt from (place_unchanged from) tt)
kinds charge from m DateReq = peer from (date_request_of charge m) (λ p. calm_built {sorts = date_sorts} refl refl (built_date_request_of charge m tt tt p tt))
kinds charge from m SetDateReq = peer from (date_request_of charge m)
    (λ p. calm_built {sorts = date_sorts} refl refl (built_date_request_of charge m tt tt p tt))
kinds charge from m DateAck = peer from (date_acked m) (λ p. calm_built {sorts = Acking ∷ []} refl refl (built_date_acked m p tt))
kinds charge from m LoopKind = Leads_nothing
kinds charge from m _ = peer from (peer_says m) (peer_says_holds m)

taken_row : (steer charge : Bool) (from : Place) (t : Taken) → Leads Base (handles steer charge from t) Base
unfolding handles
taken_row steer charge from (Bad fault) = Leads_nothing
taken_row steer charge from (Good (Message m)) = Leads_either (is_left steer m.kind) nothing (handles_kind charge from m m.kind)
    (Leads_from (λ x past h. h.0) Leads_nothing) (Leads_from (λ x past h. h.0) (kinds charge from m m.kind))
taken_row steer charge from (Good (Stamp (Request word counter))) =
    calm_built {sorts = Posting ∷ []} refl refl (built_replies from word counter (place_unchanged from) tt tt)
taken_row steer charge from (Good (Stamp (Reply r))) = peer from (peer_replies r)
    (λ p. calm_built {sorts = Sampling ∷ []} refl refl (built_peer_replies r p tt tt))

took : (steer charge : Bool) (from : Place) (t : Taken) → Leads Base (takes steer charge from t) Base
unfolding takes
took steer charge from t = Leads_then {Q = Base} (puts (Took from t)) (either_by (is_own from) nothing (handles steer charge from t))
    (Leads_puts (Took from t) (λ x past h. (tt, h)))
    (Leads_either (is_own from) nothing (handles steer charge from t) (Leads_from (λ x past h. h.0) Leads_nothing)
    (Leads_from (λ x past h. h.0) (taken_row steer charge from t)))

pub runs_sent : (clocks : Clocks) (header : HeaderValue) (events : List Event) (n : ℕ) (q : Port) → Owes SentFits (view q (of n (run_by clocks header events)))
runs_sent clocks header events n q = runs_pay by_correcting refl sends rung took clocks header events n q
