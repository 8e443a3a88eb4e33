-- A slave leaves its master's table only for a reason, and joins it only by its report.
use Rattle.std.proofs.Common.{ap, subst, ◌≡◌, inr, ℕ, ℤ, Bool, true, false, not, [], ◌∷◌}
use Rattle.std.proofs.Common.{Some, refl, ltb-true, nat_lt}
use Rattle.std.proofs.lemmas.Bool.{and_parts, not-true}
use Rattle.tsp_rules.specs.Values.{Join, Leave, Took, PeerId, Place, Peer, Stranger}
use Rattle.tsp_rules.specs.Values.{Role, Starting, Loose, Follow, Candidate, Master, Message, Stamp, Taken, Good, Bad, Request, Reply}
use Rattle.tsp_rules.specs.Values.{Kind, Ack, Conflict, Date, DateAck, DateReq, Election, LoopKind, MasterAck, MasterReq, MasterUp, Msite, MsiteReq}
use Rattle.tsp_rules.specs.Values.{QuitKind, ResolveKind, SetDate, SetDateReq, SetTime, SlaveUp, Test, TraceOff, TraceOn}
use Rattle.tsp_base.specs.Words.{MessageValue, Past, ReplyValue, Row, Leads, correct_tick, either_by}
use Rattle.tsp_base.specs.Words.{for_each, nothing, plain, posts, posts_back, posts_to_others, puts, reading}
use Rattle.tsp_base.specs.Words.{role, sets_date, taken, time_in, ◌followed_by◌}
use Rattle.tsp_base.proofs.LeadsLemmas.{Leads_each, Leads_either, Leads_from, Leads_nothing, Leads_puts, Leads_reading, Leads_then}
use Rattle.tsp_rules.specs.Answers.{from_peer, handles, handles_kind, is_left, peer_says, says_in, takes}
use Rattle.tsp_rules.specs.{ClockRows.sets}
use Rattle.tsp_rules.specs.DateRows.{date_in, date_of, date_request_in, date_request_of, is_dated, leaves, leaves_all, may_date, new_date, sets_date_where}
use Rattle.tsp_rules.specs.DateRows.{sets_in_charge}
use Rattle.tsp_rules.specs.Guards.{is_heard, is_own, is_slave_at, role_at, table_at}
use Rattle.tsp_rules.specs.MasterRows.{joins, master_takes, master_takes_kind, may_join}
use Rattle.tsp_rules.specs.SendRows.{begins_settime}
use Rattle.tsp_rules.proofs.BuiltAnswers.{built_passes_on, pass_sorts}
use Rattle.tsp_rules.proofs.{BuiltRoles.built_candidate_takes, BuiltRoles.built_slave_takes, BuiltRoles.slave_sorts}
use Rattle.tsp_rules.proofs.BuiltRoles.{all_candidate_sorts, built_conflict, built_finds_rival, built_resolves, built_sends_away, question_sorts}
use Rattle.tsp_rules.proofs.{BuiltShared.built_acknowledges, BuiltShared.built_quits, BuiltShared.quit_sorts}
use Rattle.tsp_rules.proofs.{Unchanged.place_unchanged}
use Rattle.tsp_rules.proofs.Emits.{Acking, Correcting, Emits, Numbering, Posting, Rivalling, Sampling, Tabling, is_in, is_part}
use Rattle.tsp_run.specs.Clocked.{clocks_of}
use Rattle.tsp_run.proofs.OwnClocks.{runs_by_own_clocks}
use Rattle.tsp_progress.specs.TableKept.{ClockedRunsLeave, RunsLeave, TableFits, TablesLast}
use Rattle.tsp_progress.proofs.{DebtKeeps.Paid, DebtKeeps.pays, DebtKeeps.runs_pay}
use Rattle.tsp_progress.proofs.LeaveRows.{Base, by_tabling, calm_built, rung, sends}
use Rattle.tsp_rules.specs.Answers.{peer_replies}
use Rattle.tsp_rules.specs.DateRows.{date_acked}
use Rattle.tsp_rules.proofs.BuiltShared.{built_names_master, built_replies, built_says_master, built_tests, built_traces, standing_sorts}
use Rattle.tsp_rules.proofs.BuiltAnswers.{built_date_acked, built_peer_replies}
use Rattle.tsp_rules.proofs.Emits.{Tracing, Emits_either, Emits_nothing, Emits_posts_time, Emits_posts_to_others, Emits_reading}

-- what is taken
abbrev TookFrom : Place → MessageValue → ℕ → Past → Type 0
TookFrom from m x past = Paid TableFits x past × (taken past.seen ≡ Some (record { from = from; taken = Good (Message m) }))

free : {row : Row} (from : Place) (m : MessageValue) → Leads Base row Base → Leads (TookFrom from m) row Base
free from m d = Leads_from (λ x past h. h.0) d

-- a date

-- the clock was just set to it
record Dated (x : ℕ) (past : Past) : Type 0 where
  pub paid : Paid TableFits x past
  pub from : Place
  pub message : MessageValue
  pub took : taken past.seen ≡ Some (record { from = from; taken = Good (Message message) })
  pub kind : sets_date message.kind ≡ true
  pub leads : role past.seen ≡ Master
  pub set : correct_tick (plain past.seen) ≡ Some x

back_kept : (to : Place) (number : ℕ) → Leads Dated (posts_back to DateAck number) Dated
unfolding posts_back
back_kept (Peer p) number = record {
  run = λ x past h. record {
    paid = (tt, h.paid);
    from = h.from;
    message = h.message;
    took = h.took;
    kind = h.kind;
    leads = h.leads;
    set = h.set;
  };
}
back_kept Stranger number = record {
  run = λ x past h. record {
    paid = (tt, h.paid);
    from = h.from;
    message = h.message;
    took = h.took;
    kind = h.kind;
    leads = h.leads;
    set = h.set;
  };
}

leaves_kept : (p : PeerId) → Leads Dated (leaves p) Dated
unfolding leaves
leaves_kept p = Leads_puts (Leave p) (λ x past h. record {
  paid = (inr (inr (record { from = h.from; message = h.message; took = h.took; kind = h.kind; leads = h.leads; set = h.set })), h.paid);
  from = h.from;
  message = h.message;
  took = h.took;
  kind = h.kind;
  leads = h.leads;
  set = h.set;
})

calls : Leads Base (posts_to_others MasterUp 0) Base
calls = pays by_tabling (Posting ∷ []) (posts_to_others MasterUp 0) refl (Emits_posts_to_others MasterUp 0 refl)

-- a master that has taken it
abbrev Mastering : Place → MessageValue → ℕ → Past → Type 0
Mastering from m x past = TookFrom from m x past × (role_at x past ≡ Master)

new_date_holds : (from : Place) (m : MessageValue) → sets_date m.kind ≡ true → (to : Place) (number : ℕ) (time : ℤ) →
    Leads (Mastering from m) (new_date to number time) Base
unfolding new_date leaves_all sets
new_date_holds from m kind to number time = Leads_then {Q = Dated} (sets time) (posts_back to DateAck number followed_by
    (reading table_at (for_each leaves) followed_by posts_to_others MasterUp 0))
    (record {
      run = λ x past h. record { paid = (tt, h.0.0); from = from; message = m; took = h.0.1; kind = kind; leads = h.1; set = refl };
    })
    (Leads_then {Q = Dated} (posts_back to DateAck number) (reading table_at (for_each leaves) followed_by posts_to_others MasterUp 0) (back_kept to number)
    (Leads_then {Q = Base} (reading table_at (for_each leaves)) (posts_to_others MasterUp 0)
    (Leads_reading table_at (for_each leaves) (λ ps. record { run = λ x past h. ((Leads_each leaves ps leaves_kept).run x past h.0).paid })) calls))

dates_where : (from : Place) (m : MessageValue) → sets_date m.kind ≡ true → (to : Place) (number : ℕ) (time : ℤ) →
    Leads (Mastering from m) (sets_date_where to number time) Base
unfolding sets_date_where
dates_where from m kind to number time = Leads_either (may_date time) (new_date to number time) nothing
    (Leads_from (λ x past h. h.0) (new_date_holds from m kind to number time)) (Leads_from (λ x past h. h.0.0.0) Leads_nothing)

date_role : (from : Place) (m : MessageValue) → sets_date m.kind ≡ true → (r : Role) →
    Leads (λ x past. TookFrom from m x past × (role_at x past ≡ r)) (date_in from m.number (time_in m.body) r) Base
unfolding date_in
date_role from m kind (Follow q) = Leads_from (λ x past h. h.0.0)
    (calm_built {sorts = pass_sorts} refl refl (built_passes_on m.number (time_in m.body) tt tt from q (place_unchanged from) tt tt))
date_role from m kind Master = dates_where from m kind from m.number (time_in m.body)
date_role from m kind _ = Leads_from (λ x past h. h.0.0) Leads_nothing

date_holds : (charge : Bool) (from : Place) (m : MessageValue) → sets_date m.kind ≡ true → Leads (TookFrom from m) (date_of charge from m) Base
unfolding date_of
date_holds true from m kind = Leads_reading role_at (date_in from m.number (time_in m.body)) (date_role from m kind)
date_holds false from m kind = Leads_from (λ x past h. h.0) Leads_nothing

acks_date : (p : PeerId) (number : ℕ) → Leads Base (posts p DateAck number) Base
unfolding posts
acks_date p number = record { run = λ x past h. (tt, h) }

charged : (charge : Bool) (p : PeerId) (m : MessageValue) → sets_date m.kind ≡ true → Leads (Mastering (Peer p) m) (sets_in_charge charge p m) Base
unfolding sets_in_charge
charged true p m kind = dates_where (Peer p) m kind (Peer p) m.number (time_in m.body)
charged false p m kind = Leads_from (λ x past h. h.0.0) Leads_nothing

request_role : (charge : Bool) (m : MessageValue) (p : PeerId) → sets_date m.kind ≡ true → (r : Role) →
    Leads (λ x past. TookFrom (Peer p) m x past × (role_at x past ≡ r)) (date_request_in charge m p r) Base
unfolding date_request_in
request_role charge m p kind Master = Leads_either (is_dated p m.number) (posts p DateAck m.number) (sets_in_charge charge p m)
    (Leads_from (λ x past h. h.0.0.0) (acks_date p m.number)) (Leads_from (λ x past h. h.0) (charged charge p m kind))
request_role charge m p kind _ = Leads_from (λ x past h. h.0.0) Leads_nothing

request_holds : (charge : Bool) (m : MessageValue) (p : PeerId) → sets_date m.kind ≡ true → Leads (TookFrom (Peer p) m) (date_request_of charge m p) Base
unfolding date_request_of
request_holds charge m p kind = Leads_reading role_at (date_request_in charge m p) (request_role charge m p kind)

-- a master and its peers' messages

begun_settime : (p : PeerId) (number : ℕ) → Emits (Correcting ∷ []) (begins_settime p number)
unfolding begins_settime
begun_settime p number = Emits_either _ _ nothing (Emits_reading _ _ (λ t. Emits_posts_time p SetTime number t refl)) Emits_nothing

joining : (p : PeerId) (m : MessageValue) → m.kind ≡ SlaveUp → Leads (Mastering (Peer p) m) (joins p m.number) Base
unfolding joins
joining p m kind = Leads_either (may_join p m.number) (puts (Join p) followed_by begins_settime p m.number) nothing
    (Leads_then {Q = Base} (puts (Join p)) (begins_settime p m.number)
    (Leads_puts (Join p) (λ x past h.
    let parts = and_parts (nat_lt m.number 32768) (not (is_slave_at p x past)) h.1 in (
      record {
        message = m;
        took = h.0.0.1;
        kind = kind;
        ticket = ltb-true m.number 32768 parts.0;
        leads = h.0.1;
        new = not-true (is_slave_at p x past) parts.1;
      },
      h.0.0.0,
    )))
    (pays by_tabling (Correcting ∷ []) (begins_settime p m.number) refl (begun_settime p m.number)))
    (Leads_from (λ x past h. h.0.0.0) Leads_nothing)

answers : (p : PeerId) (kind : Kind) (number : ℕ) → Leads Base (posts p kind number) Base
unfolding posts
answers p kind number = record { run = λ x past h. (tt, h) }

master : (p : PeerId) (m : MessageValue) (k : Kind) → m.kind ≡ k → Leads (Mastering (Peer p) m) (master_takes_kind p m k) Base
unfolding master_takes_kind
master p m SlaveUp is = joining p m is
master p m MasterReq is = Leads_from (λ x past h. h.0.0) (answers p MasterAck m.number)
master p m ResolveKind is = Leads_from (λ x past h. h.0.0) (answers p MasterAck m.number)
master p m Election is = Leads_from (λ x past h. h.0.0) (calm_built {sorts = Numbering ∷ []} refl refl (built_sends_away p tt))
master p m MasterUp is = Leads_from (λ x past h. h.0.0) (calm_built {sorts = question_sorts} refl refl built_resolves)
master p m Conflict is = Leads_from (λ x past h. h.0.0) (calm_built {sorts = question_sorts} refl refl (built_conflict p m.number tt tt))
master p m MasterAck is = Leads_from (λ x past h. h.0.0) (calm_built {sorts = Rivalling ∷ []} refl refl (built_finds_rival p tt))
master p m QuitKind is = Leads_from (λ x past h. h.0.0) (calm_built {sorts = quit_sorts} refl refl (built_quits p m.number tt tt))
master p m Ack is = Leads_from (λ x past h. h.0.0) (calm_built {sorts = Acking ∷ []} refl refl (built_acknowledges p m.number tt))
master p m _ is = Leads_from (λ x past h. h.0.0) Leads_nothing

slave_part : (k : Kind) → is_part (slave_sorts k) (slave_sorts k) ≡ true
slave_part Ack = refl
slave_part _ = refl

slave_apart : (k : Kind) → is_in Tabling (slave_sorts k) ≡ false
slave_apart Ack = refl
slave_apart _ = refl

says : (p : PeerId) (m : MessageValue) (r : Role) → Leads (λ x past. TookFrom (Peer p) m x past × (role_at x past ≡ r)) (says_in p m r) Base
unfolding says_in master_takes
says p m Starting = Leads_from (λ x past h. h.0.0) Leads_nothing
says p m Loose = Leads_from (λ x past h. h.0.0) (calm_built {sorts = slave_sorts m.kind} (slave_part m.kind) (slave_apart m.kind) (built_slave_takes p m tt tt))
says p m (Follow q) = Leads_from (λ x past h. h.0.0)
    (calm_built {sorts = slave_sorts m.kind} (slave_part m.kind) (slave_apart m.kind) (built_slave_takes p m tt tt))
says p m Candidate = Leads_from (λ x past h. h.0.0) (calm_built {sorts = all_candidate_sorts} refl refl (built_candidate_takes p m tt tt))
says p m Master = master p m m.kind refl

peer_says_holds : (m : MessageValue) (p : PeerId) → Leads (TookFrom (Peer p) m) (peer_says m p) Base
unfolding peer_says
peer_says_holds m p = Leads_reading role_at (says_in p m) (says p m)

peer : (from : Place) (m : MessageValue) (row : PeerId → Row) → ((p : PeerId) → Leads (TookFrom (Peer p) m) (row p) Base) →
    Leads (TookFrom from m) (from_peer from row) Base
unfolding from_peer
peer (Peer p) m row d = Leads_either (is_heard p) (row p) nothing (Leads_from (λ x past h. h.0) (d p)) (Leads_from (λ x past h. h.0.0) Leads_nothing)
peer Stranger m row d = Leads_from (λ x past h. h.0) Leads_nothing

kinds : (charge : Bool) (from : Place) (m : MessageValue) (k : Kind) → m.kind ≡ k → Leads (TookFrom from m) (handles_kind charge from m k) Base
unfolding handles_kind
kinds charge from m Msite is = free from m (calm_built {sorts = Posting ∷ []} refl refl (built_names_master from m.number (place_unchanged from) tt tt))
kinds charge from m MsiteReq is = free from m (calm_built {sorts = Posting ∷ []} refl refl (built_says_master from m.number (place_unchanged from) tt tt))
kinds charge from m TraceOn is = free from m (calm_built {sorts = Tracing ∷ Posting ∷ []} refl refl
    (built_traces from m.number (place_unchanged from) tt tt true))
kinds charge from m TraceOff is = free from m (calm_built {sorts = Tracing ∷ Posting ∷ []} refl refl
    (built_traces from m.number (place_unchanged from) tt tt false))
kinds charge from m Test is = free from m (calm_built {sorts = standing_sorts} refl refl (built_tests from m.number (place_unchanged from) tt tt))
kinds charge from m Date is = date_holds charge from m (ap sets_date is)
kinds charge from m SetDate is = date_holds charge from m (ap sets_date is)
kinds charge from m DateReq is = peer from m (date_request_of charge m) (λ p. request_holds charge m p (ap sets_date is))
kinds charge from m SetDateReq is = peer from m (date_request_of charge m) (λ p. request_holds charge m p (ap sets_date is))
kinds charge from m DateAck is = peer from m (date_acked m) (λ p. free (Peer p) m (calm_built {sorts = Acking ∷ []} refl refl (built_date_acked m p tt)))
kinds charge from m LoopKind is = free from m Leads_nothing
kinds charge from m _ is = peer from m (peer_says m) (peer_says_holds m)

replied : (from : Place) (r : ReplyValue) → Leads Base (from_peer from (peer_replies r)) Base
unfolding from_peer
replied (Peer p) r = Leads_either (is_heard p) (peer_replies r p) nothing
    (Leads_from (λ x past h. h.0) (calm_built {sorts = Sampling ∷ []} refl refl (built_peer_replies r p tt tt)))
    (Leads_from (λ x past h. h.0) Leads_nothing)
replied Stranger r = Leads_nothing

taken_row : (steer charge : Bool) (from : Place) (t : Taken) →
    Leads (λ x past. Base x past × (taken past.seen ≡ Some (record { from = from; taken = t }))) (handles steer charge from t) Base
unfolding handles
taken_row steer charge from (Bad fault) = Leads_from (λ x past h. h.0) Leads_nothing
taken_row steer charge from (Good (Message m)) = Leads_either (is_left steer m.kind) nothing (handles_kind charge from m m.kind)
    (Leads_from (λ x past h. h.0.0) Leads_nothing) (Leads_from (λ x past h. h.0) (kinds charge from m m.kind refl))
taken_row steer charge from (Good (Stamp (Request word counter))) = Leads_from (λ x past h. h.0)
    (calm_built {sorts = Posting ∷ []} refl refl (built_replies from word counter (place_unchanged from) tt tt))
taken_row steer charge from (Good (Stamp (Reply r))) = Leads_from (λ x past h. h.0) (replied from r)

took : (steer charge : Bool) (from : Place) (t : Taken) → Leads Base (takes steer charge from t) Base
unfolding takes
took steer charge from t =
    Leads_then {Q = λ x past. Base x past × (taken past.seen ≡ Some (record { from = from; taken = t }))} (puts (Took from t))
    (either_by (is_own from) nothing (handles steer charge from t)) (Leads_puts (Took from t) (λ x past h. ((tt, h), refl)))
    (Leads_either (is_own from) nothing (handles steer charge from t) (Leads_from (λ x past h. h.0.0) Leads_nothing)
    (Leads_from (λ x past h. h.0) (taken_row steer charge from t)))

pub clocked_runs_leave : ClockedRunsLeave
clocked_runs_leave clocks header events n q = runs_pay by_tabling refl sends rung took clocks header events n q

pub runs_leave : RunsLeave
runs_leave header events = subst (λ h. TablesLast h) (runs_by_own_clocks header events) (clocked_runs_leave (clocks_of header) header events)
