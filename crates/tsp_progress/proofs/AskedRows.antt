-- A master asks only who is in its table; so whoever is measured is in it.
use Rattle.std.proofs.Common.{sym, subst, true≢false, ◌∙◌, ◌≡◌, ℕ, ◌%◌, ◌^◌, ◌==◌, ◌&&◌, Bool, true, false, filter, if◌then◌else◌, List, [], ◌∷◌, refl}
use Rattle.tsp_rules.specs.Values.{Act, Boot, Become, Arm, Post, Ring, Late, Join, Leave, Abandon, Alarm, Quiet, Search, Elect, Window, Probe, CloseAlarm}
use Rattle.tsp_rules.specs.Values.{ResolveAlarm}
use Rattle.tsp_rules.specs.Values.{Round, MasterUp, PeerId, Peer, Port, Stamp, Request, Event, CLOSE, PROBE, ROUND, WAIT}
use Rattle.tsp_base.specs.Words.{Acts, Deed, Did, Elsewhere, HeaderValue, Here, Leads, Past, Row, Seen, arms, asked, either_by, for_each, in_table, is_measured}
use Rattle.tsp_base.specs.Words.{is_starting, nothing, of, plain, posts_to_others, puts, view, word, ◌followed_by◌}
use Rattle.tsp_base.specs.{PortFacts.in_table_after, RoundFacts.is_measured_after}
use Rattle.tsp_base.proofs.LeadsLemmas.{Leads_either, Leads_from, Leads_nothing, Leads_puts, Leads_reading, Leads_then}
use Rattle.tsp_rules.specs.{Answers.alarm_rings, Answers.rings, Guards.is_due, Guards.is_in_time, Guards.table_at, SendRows.due_sends}
use Rattle.tsp_rules.specs.RoundRows.{abandons, arms_next, asks, asks_measured, asks_slaves, begins_or_waits, has_more, measured_at, probe_rings, round_begins}
use Rattle.tsp_rules.specs.RoundRows.{round_rings}
use Rattle.tsp_rules.proofs.GuardFacts.{same_peer}
use Rattle.tsp_rules.proofs.BuiltRoles.{built_elect_rings, built_quiet_rings, built_resolve_rings, built_search_rings, built_window_rings, resolve_sorts}
use Rattle.tsp_rules.proofs.BuiltRoles.{window_sorts}
use Rattle.tsp_rules.proofs.{BuiltRounds.built_close_rings, BuiltRounds.close_sorts, BuiltSends.built_due_sends, BuiltSends.send_sorts}
use Rattle.tsp_rules.proofs.{BuiltShared.loose_sorts, BuiltShared.standing_sorts, EmitsBuilt.emits_built, EmitsBuilt.nothing_owed, Built.Built}
use Rattle.tsp_rules.proofs.{Unchanged.unchanged}
use Rattle.tsp_rules.proofs.Emits.{Sort, Alarming, Asking, Emits_posts_to_others, Posting, is_in, is_part, sort_of}
use Rattle.tsp_run.specs.Clocked.{Clocks, run_by}
use Rattle.tsp_progress.specs.GivenUp.{Owes}
use Rattle.tsp_progress.proofs.{DebtKeeps.OwedBy, DebtKeeps.Paid, DebtKeeps.pays, DebtKeeps.runs_pay, DebtKeeps.takes_calmly}

-- a request owes that its addressee is in the table
abbrev pub AskFits : Deed → Did → List Seen → Type 0
AskFits (Acts (Post (Peer p) (Stamp (Request word counter)))) here before = in_table p before ≡ true
AskFits _ here before = Unit {0}

unasked : (sorts : List Sort) → is_in Asking sorts ≡ false → (a : Act) → is_in (sort_of a) sorts ≡ true → (d : Did) (before : List Seen) →
    AskFits (Acts a) d before
unasked sorts none (Post (Peer p) (Stamp (Request word counter))) e d before = absurd (true≢false (sym e ∙ none))
unasked sorts none _ e d before = tt

by_asking : OwedBy Asking AskFits
by_asking = record { mark = λ d before. tt; free = unasked }

abbrev Base : ℕ → Past → Type 0
Base x past = Paid AskFits x past

-- so who is measured is in the table
table_if : (b starts was now : Bool) → (b ≡ true → now ≡ true) → (was ≡ true → now ≡ true) → (if b && starts then true else was) ≡ true → now ≡ true
table_if true true was now k j e = k refl
table_if true false was now k j e = j e
table_if false starts was now k j e = j e

leave_if : (b was now : Bool) → (was ≡ true → now ≡ true) → (if b then false else was) ≡ true → (if b then false else now) ≡ true
leave_if true was now k e = absurd (true≢false (sym e))
leave_if false was now k e = k e

join_if : (b now : Bool) → now ≡ true → (if b then true else now) ≡ true
join_if true now e = refl
join_if false now e = e

measured_deed : (p : PeerId) (d : Did) (before : List Seen) (deed : Deed) → AskFits deed d before → (is_measured p before ≡ true → in_table p before ≡ true) →
    is_measured_after p deed (is_starting before) (is_measured p before) ≡ true → in_table_after p deed (in_table p before) ≡ true
measured_deed p d before (Acts Boot) f h e = absurd (true≢false (sym e))
measured_deed p d before (Acts (Become r)) f h e = absurd (true≢false (sym e))
measured_deed p d before (Acts (Arm CloseAlarm at)) f h e = absurd (true≢false (sym e))
measured_deed p d before (Acts (Post (Peer q) (Stamp (Request word counter)))) f h e = by_flag (q.0 == p.0) refl e where
  by_flag : (b : Bool) → (q.0 == p.0) ≡ b → (if b && is_starting before then true else is_measured p before) ≡ true → in_table p before ≡ true
  by_flag b same k = table_if b (is_starting before) (is_measured p before) (in_table p before)
      (λ own. subst (λ r. in_table r before ≡ true) (same_peer q p (same ∙ own)) f) h k
measured_deed p d before (Acts (Leave q)) f h e = leave_if (q.0 == p.0) (is_measured p before) (in_table p before) h e
measured_deed p d before (Acts (Join q)) f h e = join_if (q.0 == p.0) (in_table p before) (h e)
measured_deed p d before _ f h e = h e

pub measured_in : (p : PeerId) (seen : List Seen) → Owes AskFits seen → is_measured p seen ≡ true → in_table p seen ≡ true
measured_in p [] o e = absurd (true≢false (sym e))
measured_in p (Elsewhere d ∷ before) o e = measured_in p before o e
measured_in p (Here d ∷ before) o e = measured_deed p d before d.deed o.0 (measured_in p before o.1) e

-- asking some of those that are in the table

abbrev AllIn : List Seen → List PeerId → Type 0
AllIn seen [] = Unit {0}
AllIn seen (p ∷ ps) = (in_table p seen ≡ true) × AllIn seen ps

all_in : (test : PeerId → Bool) (seen : List Seen) (ps : List PeerId) → ((p : PeerId) → test p ≡ true → in_table p seen ≡ true) → AllIn seen (filter test ps)
all_in test seen [] k = tt
all_in test seen (p ∷ ps) k = by_case (test p) refl (all_in test seen ps k) where
  by_case : (b : Bool) → test p ≡ b → AllIn seen (filter test ps) → AllIn seen (if b then p ∷ filter test ps else filter test ps)
  by_case true e rest = (k p e, rest)
  by_case false e rest = rest

record Asking_these (ps : List PeerId) (x : ℕ) (past : Past) : Type 0 where
  pub paid : Paid AskFits x past
  pub all : AllIn past.seen ps

after_ask : (d : Did) (seen : List Seen) (ps : List PeerId) → ((q : PeerId) → in_table q (Here d ∷ seen) ≡ in_table q seen) → AllIn seen ps →
    AllIn (Here d ∷ seen) ps
after_ask d seen [] k a = tt
after_ask d seen (q ∷ qs) k a = (k q ∙ a.0, after_ask d seen qs k a.1)

asks_all : (ps : List PeerId) → Leads (Asking_these ps) (for_each asks ps) Base
unfolding for_each asks
asks_all [] = Leads_from (λ x past h. h.paid) Leads_nothing
asks_all (p ∷ ps) = Leads_then {Q = Asking_these ps} (asks p) (for_each asks ps) (record {
  run = λ x past h. record {
    paid = (h.all.0, h.paid);
    all = after_ask (record {
      step = past.step;
      tick = x;
      deed = Acts (Post (Peer p) (Stamp (Request (word (plain past.seen)) (asked past.seen % 2 ^ 64))));
    }) past.seen ps (λ q. refl) h.all.1;
  };
}) (asks_all ps)

-- the alarms

calm_built : {sorts : List Sort} {k c : ℕ} {r r' : Row} → is_part sorts sorts ≡ true → is_in Asking sorts ≡ false →
    Built unchanged nothing_owed sorts k c r r' → Leads Base r Base
calm_built {sorts} {r = r} own apart d = pays by_asking sorts r apart (emits_built own d)

does : (a : Act) → ((d : Did) (before : List Seen) → AskFits (Acts a) d before) → Leads Base (puts a) Base
does a k = Leads_puts a (λ x past h. (k (record { step = past.step; tick = x; deed = Acts a }) past.seen, h))

armed : (a : Alarm) (long : ℕ) → Leads Base (arms a long) Base
unfolding arms
armed a long = record { run = λ x past h. (tt, h) }

calls : Leads Base (posts_to_others MasterUp 0) Base
calls = pays by_asking (Posting ∷ []) (posts_to_others MasterUp 0) refl (Emits_posts_to_others MasterUp 0 refl)

slaves : Leads Base asks_slaves Base
unfolding asks_slaves
slaves = Leads_reading table_at (for_each asks) (λ ps. Leads_from
    (λ x past h. record { paid = h.0; all = subst (AllIn past.seen) h.1 (all_in (λ p. in_table p past.seen) past.seen past.peers (λ p e. e)) }) (asks_all ps))

measured : Leads Base asks_measured Base
unfolding asks_measured
measured = Leads_reading measured_at (for_each asks) (λ ps. Leads_from
    (λ x past h. record {
      paid = h.0;
      all = subst (AllIn past.seen) h.1 (all_in (λ p. is_measured p past.seen) past.seen past.peers (λ p e. measured_in p past.seen h.0 e));
    }) (asks_all ps))

round_row : (wait : Bool) → Leads Base (round_rings wait) Base
unfolding round_rings begins_or_waits round_begins
round_row wait = Leads_either (is_in_time Round) (puts (Ring Round) followed_by begins_or_waits wait) (puts (Late Round) followed_by arms Round ROUND)
    (Leads_from (λ x past h. h.0) (Leads_then {Q = Base} (puts (Ring Round)) (begins_or_waits wait) (does (Ring Round) (λ d before. tt)) (by_wait wait)))
    (Leads_from (λ x past h. h.0) (Leads_then {Q = Base} (puts (Late Round)) (arms Round ROUND) (does (Late Round) (λ d before. tt)) (armed Round ROUND)))
  where
    by_wait : (b : Bool) → Leads Base (begins_or_waits b) Base
    by_wait true = armed Round WAIT
    by_wait false = Leads_then {Q = Base} (arms Round ROUND) (arms Probe PROBE followed_by (arms CloseAlarm CLOSE followed_by
        (posts_to_others MasterUp 0 followed_by asks_slaves))) (armed Round ROUND)
        (Leads_then {Q = Base} (arms Probe PROBE) (arms CloseAlarm CLOSE followed_by (posts_to_others MasterUp 0 followed_by asks_slaves)) (armed Probe PROBE)
        (Leads_then {Q = Base} (arms CloseAlarm CLOSE) (posts_to_others MasterUp 0 followed_by asks_slaves) (armed CloseAlarm CLOSE)
        (Leads_then {Q = Base} (posts_to_others MasterUp 0) asks_slaves calls slaves)))

probe_row : Leads Base probe_rings Base
unfolding probe_rings arms_next abandons
probe_row = Leads_either (is_in_time Probe) (puts (Ring Probe) followed_by (asks_measured followed_by either_by has_more (arms Probe PROBE) nothing))
    (puts (Late Probe) followed_by puts Abandon)
    (Leads_from (λ x past h. h.0) (Leads_then {Q = Base} (puts (Ring Probe)) (asks_measured followed_by either_by has_more (arms Probe PROBE) nothing)
    (does (Ring Probe) (λ d before. tt)) (Leads_then {Q = Base} asks_measured (either_by has_more (arms Probe PROBE) nothing) measured
    (Leads_either has_more (arms Probe PROBE) nothing (Leads_from (λ x past h. h.0) (armed Probe PROBE)) (Leads_from (λ x past h. h.0) Leads_nothing)))))
    (Leads_from (λ x past h. h.0) (Leads_then {Q = Base} (puts (Late Probe)) (puts Abandon) (does (Late Probe) (λ d before. tt))
    (does Abandon (λ d before. tt))))

alarm : (own wait : Bool) (a : Alarm) → Leads Base (alarm_rings own wait a) Base
unfolding alarm_rings
alarm own wait Quiet = calm_built {sorts = loose_sorts} refl refl built_quiet_rings
alarm own wait Search = calm_built {sorts = Alarming ∷ []} refl refl built_search_rings
alarm own wait Elect = calm_built {sorts = standing_sorts} refl refl built_elect_rings
alarm own wait Window = calm_built {sorts = window_sorts} refl refl (built_window_rings tt)
alarm own wait ResolveAlarm = calm_built {sorts = resolve_sorts} refl refl built_resolve_rings
alarm own wait CloseAlarm = calm_built {sorts = close_sorts} refl refl (built_close_rings own)
alarm own wait Probe = probe_row
alarm own wait Round = round_row wait

rung : (own wait : Bool) (a : Alarm) → Leads Base (rings own wait a) Base
unfolding rings
rung own wait a = Leads_either (is_due a) (alarm_rings own wait a) nothing (Leads_from (λ x past h. h.0) (alarm own wait a))
    (Leads_from (λ x past h. h.0) Leads_nothing)

sends : Leads Base due_sends Base
sends = calm_built {sorts = send_sorts} refl refl built_due_sends

pub runs_asked : (clocks : Clocks) (header : HeaderValue) (events : List Event) (n : ℕ) (q : Port) → Owes AskFits (view q (of n (run_by clocks header events)))
runs_asked clocks header events n q = runs_pay by_asking refl sends rung (takes_calmly by_asking refl) clocks header events n q
