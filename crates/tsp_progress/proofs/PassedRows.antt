-- Who passes a date on has taken it from a client, or posts it again.
use Rattle.std.proofs.Common.{sym, arith, true≢false, ltb-false, ◌∙◌, ◌≡◌, ◌≤◌, ◌⊎◌, inl, inr, ℕ, ◌+◌, ℤ, ◌||◌, nat_le, nat_lt}
use Rattle.std.proofs.Common.{Bool, true, false, List, [], ◌∷◌, Option, None, Some, refl}
use Rattle.tsp_rules.specs.Values.{Act, Post, Gave, Leave, Took, Alarm, CloseAlarm, PeerId, Place, Peer, Stranger, Port}
use Rattle.tsp_rules.specs.Values.{Role, Follow, Master, Message, Stamp, Taken, Good, Bad, Request, Reply, LAST, TRIES}
use Rattle.tsp_rules.specs.Values.{Kind, Ack, Date, DateAck, DateReq, LoopKind, Msite, MsiteReq}
use Rattle.tsp_rules.specs.Values.{SetDate, SetDateReq, Test, TraceOff, TraceOn, Event}
use Rattle.tsp_base.specs.Words.{Acts, Deed, Did, HeaderValue, Leads, MessageValue, Past, Row, Seen, Sending, TakesFrom, either_by}
use Rattle.tsp_base.specs.Words.{for_each, is_correction, is_set_date_request, nothing, of, posts, posts_back, posts_time, puts, reading, taken, time_in, view}
use Rattle.tsp_base.specs.Words.{◌followed_by◌}
use Rattle.tsp_base.proofs.LeadsLemmas.{Leads_each, Leads_either, Leads_from, Leads_nothing, Leads_puts, Leads_reading, Leads_then}
use Rattle.tsp_rules.specs.Answers.{from_peer, handles, handles_kind, is_left, peer_replies, peer_says, rings, takes}
use Rattle.tsp_rules.specs.DateRows.{date_acked, date_in, date_of, date_request_in, date_request_of, is_dated, may_date, may_pass_on, new_date, passes_on}
use Rattle.tsp_rules.specs.DateRows.{sets_date_where, sets_in_charge}
use Rattle.tsp_rules.specs.Guards.{is_heard, is_own, is_slave_at, role_at}
use Rattle.tsp_rules.specs.SendRows.{begins_timed, due_send, due_sends, gives_up, is_send_due, is_spent, leaves_after, next_number}
use Rattle.tsp_rules.specs.SendRows.{open_at, peers_at, repeats, repeats_send}
use Rattle.tsp_rules.proofs.BuiltAnswers.{built_date_acked, built_new_date, built_peer_replies, built_peer_says, built_rings, ring_sorts, says_sorts, set_sorts}
use Rattle.tsp_rules.proofs.BuiltShared.{built_names_master, built_replies, built_says_master, built_tests, built_traces, standing_sorts}
use Rattle.tsp_rules.proofs.{Built.Built, EmitsBuilt.emits_built, EmitsBuilt.nothing_owed, Unchanged.place_unchanged, Unchanged.unchanged}
use Rattle.tsp_rules.proofs.Emits.{Sort, Acking, Passing, Posting, Sampling, Tracing, is_in, is_part, sort_of, sort_of_kind}
use Rattle.tsp_run.specs.Clocked.{Clocks, run_by}
use Rattle.tsp_progress.specs.GivenUp.{Owes}
use Rattle.tsp_progress.proofs.{DebtKeeps.OwedBy, DebtKeeps.Paid, DebtKeeps.pays, DebtKeeps.runs_pay, PortWakes.Leads_if, SentRows.Again}

-- the step took a client's date
pub record TookDate (before : List Seen) : Type 0 where
  pub from : Place
  pub message : MessageValue
  pub took : TakesFrom before from (Message message)
  pub kind : (message.kind ≡ Date) ⊎ (message.kind ≡ SetDate)

-- what the post of a date that is passed on owes
abbrev pub PassFits : Deed → Did → List Seen → Type 0
PassFits (Acts (Post (Peer p) (Message m))) here before = is_set_date_request m.kind ≡ true → TookDate before ⊎ Again p here before m
PassFits _ here before = Unit {0}

unpassed : (sorts : List Sort) → is_in Passing sorts ≡ false → (k : Kind) → is_in (sort_of_kind k) sorts ≡ true → is_set_date_request k ≡ true → {A : Type 0} →
    A
unpassed sorts none SetDateReq e c = absurd (true≢false (sym e ∙ none))
unpassed sorts none _ e c = absurd (true≢false (sym c))

unpassing : (sorts : List Sort) → is_in Passing sorts ≡ false → (a : Act) → is_in (sort_of a) sorts ≡ true → (d : Did) (before : List Seen) →
    PassFits (Acts a) d before
unpassing sorts none (Post (Peer p) (Message m)) e d before = λ c. unpassed sorts none m.kind e c
unpassing sorts none _ e d before = tt

by_passing : OwedBy Passing PassFits
by_passing = record { mark = λ d before. tt; free = unpassing }

abbrev Base : ℕ → Past → Type 0
Base x past = Paid PassFits x past

calm_built : {sorts : List Sort} {k c : ℕ} {r r' : Row} → is_part sorts sorts ≡ true → is_in Passing sorts ≡ false →
    Built unchanged nothing_owed sorts k c r r' → Leads Base r Base
calm_built {sorts} {r = r} own apart d = pays by_passing sorts r apart (emits_built own d)

-- sends that are due

left : (p : PeerId) (kind : Kind) → Leads Base (leaves_after p kind) Base
unfolding leaves_after
left p kind = Leads_if (is_correction kind) (either_by (is_slave_at p) (puts (Leave p)) nothing) nothing
    (Leads_either (is_slave_at p) (puts (Leave p)) nothing (Leads_puts (Leave p) (λ x past h. (tt, h.0))) (Leads_from (λ x past h. h.0) Leads_nothing))
    Leads_nothing

unspent : (s : Sending) (x : ℕ) → (nat_lt (s.began + LAST) x || nat_le TRIES s.posts) ≡ false → x ≤ s.began + LAST
unspent s x e = by_case (nat_lt (s.began + LAST) x) refl e where
  by_case : (b : Bool) → nat_lt (s.began + LAST) x ≡ b → (b || nat_le TRIES s.posts) ≡ false → x ≤ s.began + LAST
  by_case true is k = absurd (true≢false k)
  by_case false is k = let le = ltb-false (s.began + LAST) x is in omega (arith, le)

due : (p : PeerId) (o : Option Sending) → Leads (λ x past. Base x past × (open_at p x past ≡ o)) (repeats_send p o) Base
unfolding repeats_send gives_up repeats
due p None = Leads_from (λ x past h. h.0) Leads_nothing
due p (Some s) =
    let gives = puts (Gave p) followed_by leaves_after p s.message.kind in
    let again = puts (Post (Peer p) (Message s.message)) in
    Leads_either (is_send_due s) (either_by (is_spent s) gives again) nothing
    (Leads_either (is_spent s) gives again
    (Leads_then {Q = Base} (puts (Gave p)) (leaves_after p s.message.kind) (Leads_puts (Gave p) (λ x past h. (tt, h.0.0.0))) (left p s.message.kind))
    (Leads_puts (Post (Peer p) (Message s.message)) (λ x past h. (
      λ c. inr (record { sending = s; open_is = h.0.0.1; message = refl; soon = unspent s x h.1 }),
      h.0.0.0,
    ))))
    (Leads_from (λ x past h. h.0.0) Leads_nothing)

sends : Leads Base due_sends Base
unfolding due_sends due_send
sends = Leads_reading peers_at (for_each (λ p. reading (open_at p) (repeats_send p))) (λ ps. Leads_from (λ x past h. h.0)
    (Leads_each (λ p. reading (open_at p) (repeats_send p)) ps (λ p. Leads_reading (open_at p) (repeats_send p) (due p))))

ring_part : (a : Alarm) → is_part (ring_sorts a) (ring_sorts a) ≡ true
ring_part CloseAlarm = refl
ring_part _ = refl

ring_apart : (a : Alarm) → is_in Passing (ring_sorts a) ≡ false
ring_apart CloseAlarm = refl
ring_apart _ = refl

rung : (own wait : Bool) (a : Alarm) → Leads Base (rings own wait a) Base
rung own wait a = pays by_passing (ring_sorts a) (rings own wait a) (ring_apart a) (emits_built (ring_part a) (built_rings own wait a))

-- a date

abbrev TookFrom : Place → MessageValue → ℕ → Past → Type 0
TookFrom from m x past = Paid PassFits x past × (taken past.seen ≡ Some (record { from = from; taken = Good (Message m) }))

acked : (from : Place) (m : MessageValue) (to : Place) (number : ℕ) → Leads (TookFrom from m) (posts_back to Ack number) (TookFrom from m)
unfolding posts_back
acked from m (Peer p) number = record { run = λ x past h. ((λ c. absurd (true≢false (sym c)), h.0), h.1) }
acked from m Stranger number = record { run = λ x past h. ((tt, h.0), h.1) }

passing : (from : Place) (m : MessageValue) → (m.kind ≡ Date) ⊎ (m.kind ≡ SetDate) → (q : PeerId) (number : ℕ) (time : ℤ) →
    Leads (TookFrom from m) (passes_on from q number time) Base
unfolding passes_on begins_timed posts_time
passing from m kind q number time = Leads_either (may_pass_on q) (posts_back from Ack number followed_by reading next_number
    (λ n. posts_time q SetDateReq n time)) nothing
    (Leads_from (λ x past h. h.0) (Leads_then {Q = TookFrom from m} (posts_back from Ack number) (reading next_number (λ n. posts_time q SetDateReq n time))
    (acked from m from number) (Leads_reading next_number (λ n. posts_time q SetDateReq n time) (λ n. record {
      run = λ x past h. (λ c. inl (record { from = from; message = m; took = h.0.1; kind = kind }), h.0.0);
    })))) (Leads_from (λ x past h. h.0.0) Leads_nothing)

set_where : (to : Place) (number : ℕ) (time : ℤ) → Leads Base (sets_date_where to number time) Base
unfolding sets_date_where
set_where to number time = Leads_either (may_date time) (new_date to number time) nothing
    (Leads_from (λ x past h. h.0) (calm_built {sorts = set_sorts} refl refl (built_new_date number time tt tt to (place_unchanged to) tt)))
    (Leads_from (λ x past h. h.0) Leads_nothing)

date_role : (from : Place) (m : MessageValue) → (m.kind ≡ Date) ⊎ (m.kind ≡ SetDate) → (r : Role) → Leads (TookFrom from m)
    (date_in from m.number (time_in m.body) r) Base
unfolding date_in
date_role from m kind (Follow q) = passing from m kind q m.number (time_in m.body)
date_role from m kind Master = Leads_from (λ x past h. h.0) (set_where from m.number (time_in m.body))
date_role from m kind _ = Leads_from (λ x past h. h.0) Leads_nothing

date_holds : (charge : Bool) (from : Place) (m : MessageValue) → (m.kind ≡ Date) ⊎ (m.kind ≡ SetDate) → Leads (TookFrom from m) (date_of charge from m) Base
unfolding date_of
date_holds true from m kind = Leads_reading role_at (date_in from m.number (time_in m.body)) (λ r. Leads_from (λ x past h. h.0) (date_role from m kind r))
date_holds false from m kind = Leads_from (λ x past h. h.0) Leads_nothing

acks_date : (p : PeerId) (number : ℕ) → Leads Base (posts p DateAck number) Base
unfolding posts
acks_date p number = record { run = λ x past h. (λ c. absurd (true≢false (sym c)), h) }

charged : (charge : Bool) (p : PeerId) (m : MessageValue) → Leads Base (sets_in_charge charge p m) Base
unfolding sets_in_charge
charged true p m = set_where (Peer p) m.number (time_in m.body)
charged false p m = Leads_nothing

request_role : (charge : Bool) (m : MessageValue) (p : PeerId) (r : Role) → Leads Base (date_request_in charge m p r) Base
unfolding date_request_in
request_role charge m p Master = Leads_either (is_dated p m.number) (posts p DateAck m.number) (sets_in_charge charge p m)
    (Leads_from (λ x past h. h.0) (acks_date p m.number)) (Leads_from (λ x past h. h.0) (charged charge p m))
request_role charge m p _ = Leads_nothing

request_holds : (charge : Bool) (m : MessageValue) (p : PeerId) → Leads Base (date_request_of charge m p) Base
unfolding date_request_of
request_holds charge m p = Leads_reading role_at (date_request_in charge m p) (λ r. Leads_from (λ x past h. h.0) (request_role charge m p r))

-- what is taken

peer : (from : Place) (row : PeerId → Row) → ((p : PeerId) → Leads Base (row p) Base) → Leads Base (from_peer from row) Base
unfolding from_peer
peer (Peer p) row d = Leads_either (is_heard p) (row p) nothing (Leads_from (λ x past h. h.0) (d p)) (Leads_from (λ x past h. h.0) Leads_nothing)
peer Stranger row d = Leads_nothing

free : {row : Row} (from : Place) (m : MessageValue) → Leads Base row Base → Leads (TookFrom from m) row Base
free from m d = Leads_from (λ x past h. h.0) d

kinds : (charge : Bool) (from : Place) (m : MessageValue) (k : Kind) → m.kind ≡ k → Leads (TookFrom from m) (handles_kind charge from m k) Base
unfolding handles_kind
kinds charge from m Msite is = free from m (calm_built {sorts = Posting ∷ []} refl refl (built_names_master from m.number (place_unchanged from) tt tt))
kinds charge from m MsiteReq is = free from m (calm_built {sorts = Posting ∷ []} refl refl (built_says_master from m.number (place_unchanged from) tt tt))
kinds charge from m TraceOn is = free from m (calm_built {sorts = Tracing ∷ Posting ∷ []} refl refl
    (built_traces from m.number (place_unchanged from) tt tt true))
kinds charge from m TraceOff is = free from m (calm_built {sorts = Tracing ∷ Posting ∷ []} refl refl
    (built_traces from m.number (place_unchanged from) tt tt false))
kinds charge from m Test is = free from m (calm_built {sorts = standing_sorts} refl refl (built_tests from m.number (place_unchanged from) tt tt))
kinds charge from m Date is = date_holds charge from m (inl is)
kinds charge from m SetDate is = date_holds charge from m (inr is)
kinds charge from m DateReq is = free from m (peer from (date_request_of charge m) (request_holds charge m))
kinds charge from m SetDateReq is = free from m (peer from (date_request_of charge m) (request_holds charge m))
kinds charge from m DateAck is = free from m (peer from (date_acked m) (λ p. calm_built {sorts = Acking ∷ []} refl refl (built_date_acked m p tt)))
kinds charge from m LoopKind is = free from m Leads_nothing
kinds charge from m _ is = free from m (peer from (peer_says m) (λ p. calm_built {sorts = says_sorts} refl refl (built_peer_says m p tt tt)))

taken_row : (steer charge : Bool) (from : Place) (t : Taken) →
    Leads (λ x past. Base x past × (taken past.seen ≡ Some (record { from = from; taken = t }))) (handles steer charge from t) Base
unfolding handles
taken_row steer charge from (Bad fault) = Leads_from (λ x past h. h.0) Leads_nothing
taken_row steer charge from (Good (Message m)) = Leads_either (is_left steer m.kind) nothing (handles_kind charge from m m.kind)
    (Leads_from (λ x past h. h.0.0) Leads_nothing) (Leads_from (λ x past h. h.0) (kinds charge from m m.kind refl))
taken_row steer charge from (Good (Stamp (Request word counter))) = Leads_from (λ x past h. h.0)
    (calm_built {sorts = Posting ∷ []} refl refl (built_replies from word counter (place_unchanged from) tt tt))
taken_row steer charge from (Good (Stamp (Reply r))) = Leads_from (λ x past h. h.0)
    (peer from (peer_replies r) (λ p. calm_built {sorts = Sampling ∷ []} refl refl (built_peer_replies r p tt tt)))

took : (steer charge : Bool) (from : Place) (t : Taken) → Leads Base (takes steer charge from t) Base
unfolding takes
took steer charge from t =
    Leads_then {Q = λ x past. Base x past × (taken past.seen ≡ Some (record { from = from; taken = t }))} (puts (Took from t))
    (either_by (is_own from) nothing (handles steer charge from t)) (Leads_puts (Took from t) (λ x past h. ((tt, h), refl)))
    (Leads_either (is_own from) nothing (handles steer charge from t) (Leads_from (λ x past h. h.0.0) Leads_nothing)
    (Leads_from (λ x past h. h.0) (taken_row steer charge from t)))

pub runs_passed : (clocks : Clocks) (header : HeaderValue) (events : List Event) (n : ℕ) (q : Port) →
    Owes PassFits (view q (of n (run_by clocks header events)))
runs_passed clocks header events n q = runs_pay by_passing refl sends rung took clocks header events n q
