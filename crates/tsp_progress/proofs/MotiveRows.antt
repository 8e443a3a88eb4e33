-- Each alarm's row has its motives.
use Rattle.std.proofs.Common.{sym, true≢false, ◌∙◌, ◌≡◌, ◌⊎◌, inl, inr, ℕ, ◌+◌, Bool, true, false, List, [], ◌∷◌, Option, None, Some}
use Rattle.std.proofs.Common.{is_some, map, refl}
use Rattle.tsp_rules.specs.Values.{Become, Arm, Ring, Late, Back, Abandon, Alarm, Quiet, Search, Elect, Window, Probe, CloseAlarm, ResolveAlarm, Round}
use Rattle.tsp_rules.specs.Values.{PeerId, Role, Starting, Loose, Follow, Candidate, Master, Kind, Election, MasterReq, MasterUp, QuitKind}
use Rattle.tsp_rules.specs.Values.{SlaveUp, Test, WINDOW, ROUND, PROBE, CLOSE, WAIT}
use Rattle.tsp_base.specs.Words.{Acts, Deed, Elsewhere, Here, Past, Row, Seen, Leads, arms, armed, for_each, grown, nothing, others, post_of, posts}
use Rattle.tsp_base.specs.Words.{posts_to_others, puts, either_by, reading, role, taken, ◌followed_by◌}
use Rattle.tsp_base.proofs.LeadsLemmas.{Leads_then, Leads_either, Leads_reading, Leads_nothing, Leads_puts, Leads_each, Leads_from, Leads_to}
use Rattle.tsp_rules.specs.CandidateRows.{has_won, lead_row, window_rings, yields}
use Rattle.tsp_rules.specs.CommonRows.{arms_elect, backs_own, candidature_row, follow_row, is_idle, own_at, searches, tells_ticket}
use Rattle.tsp_rules.specs.SlaveRows.{quiet_rings, rings_or_late, search_rings, loosens, elect_rings}
use Rattle.tsp_rules.specs.{ResolveRows.resolve_rings, ResolveRows.quits_rivals}
use Rattle.tsp_rules.specs.RoundRows.{round_rings, begins_or_waits, round_begins, asks, asks_slaves, probe_rings, asks_measured, arms_next, abandons}
use Rattle.tsp_rules.specs.RoundRows.{has_more, measured_at}
use Rattle.tsp_rules.specs.Guards.{delay_at, is_due, is_in_time, is_master, is_over, is_starting_role, may_stand_at, follows_at, rivals_at, table_at, ticket_at}
use Rattle.tsp_rules.specs.SendRows.{begins, begins_to_others, next_number, others_at}
use Rattle.tsp_rules.specs.Answers.{alarm_rings, rings}
use Rattle.tsp_rules.proofs.Emits.{Asking}
use Rattle.tsp_rules.proofs.{Built.At, RowCodes.Asks}
use Rattle.tsp_rules.proofs.BuiltRounds.{close_sorts, built_close_rings}
use Rattle.tsp_progress.specs.AlarmsFit.{is_candidate, newest_is, stands_now}
use Rattle.tsp_progress.specs.{CausesFit.backs_by, CausesFit.elects_by, CausesFit.seeks_by, RolesLast.TookKind}
use Rattle.tsp_progress.specs.Motives.{MotiveFits, TookCall, frees_by, seeks_after, seeks_now}
use Rattle.tsp_progress.proofs.MotiveLeads.{Base, In, Moved, any_role, becomes, calm_built, does_plain, does_rule, is_common, is_election, keep, now_did, plain}
use Rattle.tsp_progress.proofs.MotiveLeads.{rule, rule_built}

-- why Elect is armed
abbrev pub ElectCause : List Seen → Type 0
ElectCause before = (newest_is seeks_by before ≡ true) ⊎ ((newest_is backs_by before ≡ true) ⊎ TookCall before)

-- in any role
pub from_any : {row : Row} → Leads (In any_role) row (In any_role) → Leads Base row Base
from_any d = Leads_from (λ x past h. (h, refl)) (Leads_to (λ x past h. h.0) d)

pub drop : (ok : Role → Bool) {row : Row} → Leads (In ok) row (In ok) → Leads (In ok) row Base
drop ok d = Leads_to (λ x past h. h.0) d

pub posted : (ok : Role → Bool) (p : PeerId) (kind : Kind) (number : ℕ) → is_common kind ≡ true → Leads (In ok) (posts p kind number) (In ok)
unfolding posts
posted ok p kind number e = record { run = λ x past h. plain ok (post_of kind number past.name p) e x past h }

pub told : (ok : Role → Bool) (kind : Kind) → is_common kind ≡ true → Leads (In ok) (posts_to_others kind 0) (In ok)
unfolding posts_to_others
told ok kind e = record { run = λ x past h. each x past (others past.own past.peers) past.name h } where
  each : (x : ℕ) (past : Past) (ps : List PeerId) (name : List ℕ) → In ok x past → In ok x (grown x past (map (post_of kind 0 name) ps))
  each x past [] name h = h
  each x past (p ∷ ps) name h = each x (grown x past (post_of kind 0 name p ∷ [])) ps name (plain ok (post_of kind 0 name p) e x past h)

pub told_rule : (kind : Kind) → is_election kind ≡ false → Leads (In is_master) (posts_to_others kind 0) (In is_master)
unfolding posts_to_others
told_rule kind e = record { run = λ x past h. each x past (others past.own past.peers) past.name h } where
  each : (x : ℕ) (past : Past) (ps : List PeerId) (name : List ℕ) → In is_master x past → In is_master x (grown x past (map (post_of kind 0 name) ps))
  each x past [] name h = h
  each x past (p ∷ ps) name h = each x (grown x past (post_of kind 0 name p ∷ [])) ps name (rule (post_of kind 0 name p) (rw e refl) x past h)

pub posted_rule : (p : PeerId) (kind : Kind) (number : ℕ) → is_election kind ≡ false → Leads (In is_master) (posts p kind number) (In is_master)
unfolding posts
posted_rule p kind number e = record { run = λ x past h. rule (post_of kind number past.name p) (rw e refl) x past h }

pub begun : (ok : Role → Bool) (kind : Kind) (p : PeerId) → is_common kind ≡ true → Leads (In ok) (begins kind p) (In ok)
unfolding begins
begun ok kind p e = Leads_reading next_number (posts p kind) (λ n. Leads_from (λ x past h. h.0) (posted ok p kind n e))

pub begun_rule : (kind : Kind) (p : PeerId) → is_election kind ≡ false → Leads (In is_master) (begins kind p) (In is_master)
unfolding begins
begun_rule kind p e = Leads_reading next_number (posts p kind) (λ n. Leads_from (λ x past h. h.0) (posted_rule p kind n e))

-- a master arms an alarm
pub arms_round : (long : ℕ) → Leads (In is_master) (arms Round long) (In is_master)
unfolding arms
arms_round long = record { run = λ x past h. rule (Arm Round (x + long)) refl x past h }

pub arms_probe : (long : ℕ) → Leads (In is_master) (arms Probe long) (In is_master)
unfolding arms
arms_probe long = record { run = λ x past h. rule (Arm Probe (x + long)) refl x past h }

pub arms_close : (long : ℕ) → Leads (In is_master) (arms CloseAlarm long) (In is_master)
unfolding arms
arms_close long = record { run = λ x past h. rule (Arm CloseAlarm (x + long)) refl x past h }

pub arms_resolve : (long : ℕ) → Leads (In is_master) (arms ResolveAlarm long) (In is_master)
unfolding arms
arms_resolve long = record { run = λ x past h. rule (Arm ResolveAlarm (x + long)) refl x past h }

-- a change of the role
pub changes : {P : ℕ → Past → Type 0} (ok : Role → Bool) (r : Role) → ok r ≡ true →
    ((x : ℕ) (past : Past) → P x past → Moved past.seen × MotiveFits (Acts (Become r)) (now_did x past (Become r)) past.seen) →
    Leads P (puts (Become r)) (In ok)
changes ok r e k = Leads_puts (Become r) (λ x past h. let d = k x past h in becomes ok r e x past d.0 d.1)

-- Elect is armed for a cause
pub elects_for : {P : ℕ → Past → Type 0} → ((x : ℕ) (past : Past) → P x past → In is_idle x past × ElectCause past.seen) → Leads P arms_elect (In is_idle)
unfolding arms_elect arms
elects_for k = Leads_reading delay_at (arms Elect) (λ long. record {
  run = λ x past h. let d = k x past h.0 in keep is_idle (Arm Elect (x + long)) refl x past d.0 d.1 d.0.1;
})

-- the port looks for a master
abbrev pub Seeking : ℕ → Past → Type 0
Seeking x past = In is_idle x past × (seeks_now past.seen ≡ true)

pub looks : Leads Seeking searches (In is_idle)
unfolding searches arms
looks = Leads_then {Q = In is_idle} (arms Search WINDOW) (posts_to_others MasterReq 0)
    (record { run = λ x past h. keep is_idle (Arm Search (x + WINDOW)) refl x past h.0 h.1 h.0.1 })
    (told is_idle MasterReq refl)

pub tells : (p : PeerId) → Leads (In is_idle) (tells_ticket p) (In is_idle)
unfolding tells_ticket
tells p = Leads_reading ticket_at (posts p SlaveUp) (λ n. Leads_from (λ x past h. h.0) (posted is_idle p SlaveUp n refl))

-- it waits anew since a master's word came
abbrev pub Called : (Role → Bool) → ℕ → Past → Type 0
Called ok x past = In ok x past × TookCall past.seen

pub again : (p : PeerId) → Leads (Called is_idle) (arms_elect followed_by tells_ticket p) (In is_idle)
again p = Leads_then {Q = In is_idle} arms_elect (tells_ticket p) (elects_for (λ x past h. (h.0, inr (inr h.1)))) (tells p)

pub called_after : (seen : List Seen) (s : Seen) → taken (s ∷ seen) ≡ taken seen → TookCall seen → TookCall (s ∷ seen)
called_after seen s same q = record { from = q.from; message = q.message; took = same ∙ q.took; call = q.call }

-- who follows a master does so for its word
pub follows : (p : PeerId) → Leads (λ x past. Moved past.seen × TookCall past.seen) (follow_row p) Base
unfolding follow_row
follows p = Leads_then {Q = Called is_idle} (puts (Become (Follow p))) (arms_elect followed_by tells_ticket p)
    (Leads_puts (Become (Follow p)) (λ x past h. (
      becomes is_idle (Follow p) refl x past h.0 tt,
      called_after past.seen (Here (now_did x past (Become (Follow p)))) refl h.1,
    )))
    (drop_called (again p))
  where
    drop_called : {row : Row} → Leads (Called is_idle) row (In is_idle) → Leads (Called is_idle) row Base
    drop_called d = Leads_to (λ x past h. h.0) d

-- a candidature or a reign ends
abbrev pub Loosened : ℕ → Past → Type 0
Loosened x past = In is_idle x past × (newest_is seeks_by past.seen ≡ true)

pub yield : {P : ℕ → Past → Type 0} → ((x : ℕ) (past : Past) → P x past → Moved past.seen × (is_idle (role past.seen) ≡ false)) → Leads P yields Base
unfolding yields
yield {P = P} k = Leads_then {Q = Loosened} (puts (Become Loose)) arms_elect
    (Leads_puts (Become Loose) (λ x past h. let d = k x past h in
    (becomes is_idle Loose refl x past d.0 (λ e. absurd (true≢false (sym e ∙ d.1))), refl)))
    (Leads_to (λ x past h. h.0) (elects_for (λ x past h. (h.0, inl h.1))))

pub candidate_busy : (r : Role) → is_candidate r ≡ true → is_idle r ≡ false
candidate_busy Candidate e = refl
candidate_busy _ e = absurd (true≢false (sym e))

pub master_busy : (r : Role) → is_master r ≡ true → is_idle r ≡ false
master_busy Master e = refl
master_busy _ e = absurd (true≢false (sym e))

starting_busy : (r : Role) → is_starting_role r ≡ true → is_idle r ≡ false
starting_busy Starting e = refl
starting_busy _ e = absurd (true≢false (sym e))

-- a candidature

abbrev StandingNow : ℕ → Past → Type 0
StandingNow x past = In is_candidate x past × (stands_now past.seen ≡ true)

backs_itself : Leads StandingNow backs_own (In is_candidate)
unfolding backs_own
backs_itself = Leads_reading own_at (λ own. puts (Back own)) (λ own. Leads_puts (Back own) (λ x past h.
    keep is_candidate (Back own) refl x past h.0.0 (inr h.0.1) tt))

asks_one : (p : PeerId) → Leads (In is_candidate) (begins Election p) (In is_candidate)
unfolding begins posts
asks_one p = Leads_reading next_number (posts p Election) (λ n. record {
  run = λ x past h. keep is_candidate (post_of Election n past.name p) refl x past h.0 h.0.1 tt;
})

asks_all : Leads (In is_candidate) (begins_to_others Election) (In is_candidate)
unfolding begins_to_others
asks_all = Leads_reading others_at (for_each (begins Election)) (λ ps. Leads_from (λ x past h. h.0) (Leads_each (begins Election) ps asks_one))

pub stands : {P : ℕ → Past → Type 0} → ((x : ℕ) (past : Past) → P x past → Moved past.seen × ((newest_is elects_by past.seen ≡ true) ⊎ TookKind Test past.seen))
    →
    Leads P candidature_row Base
unfolding candidature_row arms
stands k = Leads_then {Q = StandingNow} (puts (Become Candidate)) (backs_own followed_by (arms Window WINDOW followed_by begins_to_others Election))
    (Leads_puts (Become Candidate) (λ x past h. let d = k x past h in (becomes is_candidate Candidate refl x past d.0 d.1, refl)))
    (Leads_then {Q = In is_candidate} backs_own (arms Window WINDOW followed_by begins_to_others Election) backs_itself
    (Leads_then {Q = In is_candidate} (arms Window WINDOW) (begins_to_others Election)
    (record { run = λ x past h. keep is_candidate (Arm Window (x + WINDOW)) refl x past h tt h.1 })
    (drop is_candidate asks_all)))

-- the alarms

abbrev Freed : ℕ → Past → Type 0
Freed x past = In is_starting_role x past × (newest_is frees_by past.seen ≡ true)

quiet_row : Leads (In is_starting_role) quiet_rings Base
unfolding quiet_rings
quiet_row = Leads_then {Q = Freed} (puts (Ring Quiet)) (puts (Become Loose) followed_by searches)
    (Leads_puts (Ring Quiet) (λ x past h. (keep is_starting_role (Ring Quiet) refl x past h h.1 tt, refl)))
    (Leads_then {Q = Seeking} (puts (Become Loose)) searches
    (Leads_puts (Become Loose) (λ x past h. (
      becomes is_idle Loose refl x past h.0.0 (λ e. absurd (true≢false (sym e ∙ starting_busy (role past.seen) h.0.1))),
      h.1,
    )))
    (drop_seeking looks))
  where
    drop_seeking : {row : Row} → Leads Seeking row (In is_idle) → Leads Seeking row Base
    drop_seeking d = Leads_to (λ x past h. h.0) d

search_row : Leads (In is_idle) search_rings Base
unfolding search_rings rings_or_late
search_row = Leads_then {Q = Loosened} (either_by (is_in_time Search) (puts (Ring Search)) (puts (Late Search))) arms_elect
    (Leads_either (is_in_time Search) (puts (Ring Search)) (puts (Late Search))
    (Leads_puts (Ring Search) (λ x past h. (plain is_idle (Ring Search) refl x past h.0, refl)))
    (Leads_puts (Late Search) (λ x past h. (plain is_idle (Late Search) refl x past h.0, refl))))
    (Leads_to (λ x past h. h.0) (elects_for (λ x past h. (h.0, inl h.1))))

-- Elect has just rung
abbrev Rung : ℕ → Past → Type 0
Rung x past = In is_idle x past × (newest_is elects_by past.seen ≡ true)

rung_seeks : (seen : List Seen) → newest_is elects_by seen ≡ true → seeks_now seen ≡ true
rung_seeks [] e = e
rung_seeks (Elsewhere d ∷ older) e = e
rung_seeks (Here d ∷ older) e = by_deed d.deed e where
  by_deed : (deed : Deed) → elects_by deed ≡ true → seeks_after deed older ≡ true
  by_deed (Acts (Ring Elect)) e = refl
  by_deed _ e = absurd (true≢false (sym e))

rung_frees : (seen : List Seen) → newest_is elects_by seen ≡ true → newest_is frees_by seen ≡ true
rung_frees [] e = e
rung_frees (Elsewhere d ∷ older) e = e
rung_frees (Here d ∷ older) e = by_deed d.deed e where
  by_deed : (deed : Deed) → elects_by deed ≡ true → frees_by deed ≡ true
  by_deed (Acts (Ring Elect)) e = refl
  by_deed _ e = absurd (true≢false (sym e))

gives_up_holds : Leads Rung loosens Seeking
unfolding loosens
gives_up_holds = Leads_either follows_at (puts (Become Loose)) nothing
    (Leads_puts (Become Loose) (λ x past h. (becomes is_idle Loose refl x past h.0.0.0 (λ e. h.0.1), rung_frees past.seen h.0.1)))
    (Leads_from (λ x past h. (h.0.0, rung_seeks past.seen h.0.1)) Leads_nothing)

elect_row : Leads (In is_idle) elect_rings Base
unfolding elect_rings
elect_row = Leads_either (is_in_time Elect) (puts (Ring Elect) followed_by either_by may_stand_at candidature_row (loosens followed_by searches))
    (puts (Late Elect) followed_by arms_elect)
    (Leads_then {Q = Rung} (puts (Ring Elect)) (either_by may_stand_at candidature_row (loosens followed_by searches))
    (Leads_puts (Ring Elect) (λ x past h. (plain is_idle (Ring Elect) refl x past h.0, refl)))
    (Leads_either may_stand_at candidature_row (loosens followed_by searches)
    (stands (λ x past h. (h.0.0.0, inl h.0.1)))
    (Leads_from (λ x past h. h.0) (Leads_then {Q = Seeking} loosens searches gives_up_holds (Leads_to (λ x past h. h.0) looks)))))
    (Leads_from (λ x past h. h.0) (Leads_then {Q = Loosened} (puts (Late Elect)) arms_elect
    (Leads_puts (Late Elect) (λ x past h. (plain is_idle (Late Elect) refl x past h, refl)))
    (Leads_to (λ x past h. h.0) (elects_for (λ x past h. (h.0, inl h.1))))))

leads : Leads (In is_candidate) lead_row Base
unfolding lead_row
leads = Leads_then {Q = In is_master} (puts (Become Master)) (arms Round ROUND followed_by posts_to_others MasterUp 0)
    (changes is_master Master refl (λ x past h. (h.0, tt)))
    (Leads_then {Q = In is_master} (arms Round ROUND) (posts_to_others MasterUp 0) (arms_round ROUND) (drop is_master (told_rule MasterUp refl)))

loses : Leads (In is_candidate) yields Base
loses = yield (λ x past h. (h.0, candidate_busy (role past.seen) h.1))

window_row : Leads (In is_candidate) window_rings Base
unfolding window_rings
window_row = Leads_either (is_in_time Window) (puts (Ring Window) followed_by either_by has_won lead_row yields) (puts (Late Window) followed_by yields)
    (Leads_from (λ x past h. h.0) (Leads_then {Q = In is_candidate} (puts (Ring Window)) (either_by has_won lead_row yields)
    (does_plain is_candidate (Ring Window) refl)
    (Leads_either has_won lead_row yields (Leads_from (λ x past h. h.0) leads) (Leads_from (λ x past h. h.0) loses))))
    (Leads_from (λ x past h. h.0) (Leads_then {Q = In is_candidate} (puts (Late Window)) yields (does_plain is_candidate (Late Window) refl) loses))

resolve_row : Leads (In is_master) resolve_rings Base
unfolding resolve_rings quits_rivals
resolve_row = Leads_either (is_in_time ResolveAlarm) (puts (Ring ResolveAlarm) followed_by reading rivals_at (for_each (begins QuitKind)))
    (puts (Late ResolveAlarm))
    (Leads_from (λ x past h. h.0) (Leads_then {Q = In is_master} (puts (Ring ResolveAlarm)) (reading rivals_at (for_each (begins QuitKind)))
    (does_rule (Ring ResolveAlarm) refl)
    (Leads_reading rivals_at (for_each (begins QuitKind)) (λ ps. Leads_from (λ x past h. h.0) (drop is_master (Leads_each (begins QuitKind) ps
    (λ p. begun_rule QuitKind p refl)))))))
    (Leads_from (λ x past h. h.0) (drop is_master (does_rule (Late ResolveAlarm) refl)))

pub asks_stamp : (p : PeerId) → Leads (In is_master) (asks p) (In is_master)
asks_stamp p = calm_built is_master {sorts = Asking ∷ []} refl refl (At (Asks p tt) refl)

round_row : (wait : Bool) → Leads (In is_master) (round_rings wait) (In is_master)
unfolding round_rings begins_or_waits round_begins asks_slaves
round_row wait = Leads_either (is_in_time Round) (puts (Ring Round) followed_by begins_or_waits wait) (puts (Late Round) followed_by arms Round ROUND)
    (Leads_from (λ x past h. h.0) (Leads_then {Q = In is_master} (puts (Ring Round)) (begins_or_waits wait) (does_rule (Ring Round) refl) (by_wait wait)))
    (Leads_from (λ x past h. h.0) (Leads_then {Q = In is_master} (puts (Late Round)) (arms Round ROUND) (does_rule (Late Round) refl) (arms_round ROUND)))
  where
    by_wait : (b : Bool) → Leads (In is_master) (begins_or_waits b) (In is_master)
    by_wait true = arms_round WAIT
    by_wait false = Leads_then {Q = In is_master} (arms Round ROUND) (arms Probe PROBE followed_by
        (arms CloseAlarm CLOSE followed_by (posts_to_others MasterUp 0 followed_by reading table_at (for_each asks))))
        (arms_round ROUND)
        (Leads_then {Q = In is_master} (arms Probe PROBE) (arms CloseAlarm CLOSE followed_by (posts_to_others MasterUp 0 followed_by reading table_at
        (for_each asks))) (arms_probe PROBE)
        (Leads_then {Q = In is_master} (arms CloseAlarm CLOSE) (posts_to_others MasterUp 0 followed_by reading table_at (for_each asks))
        (arms_close CLOSE)
        (Leads_then {Q = In is_master} (posts_to_others MasterUp 0) (reading table_at (for_each asks)) (told_rule MasterUp refl)
        (Leads_reading table_at (for_each asks) (λ ps. Leads_from (λ x past h. h.0) (Leads_each asks ps asks_stamp))))))

probe_row : Leads (In is_master) probe_rings (In is_master)
unfolding probe_rings asks_measured arms_next abandons
probe_row = Leads_either (is_in_time Probe) (puts (Ring Probe) followed_by (reading measured_at (for_each asks) followed_by either_by has_more
    (arms Probe PROBE) nothing)) (puts (Late Probe) followed_by puts Abandon)
    (Leads_from (λ x past h. h.0) (Leads_then {Q = In is_master} (puts (Ring Probe)) (reading measured_at (for_each asks) followed_by either_by has_more
    (arms Probe PROBE) nothing) (does_rule (Ring Probe) refl)
    (Leads_then {Q = In is_master} (reading measured_at (for_each asks)) (either_by has_more (arms Probe PROBE) nothing)
    (Leads_reading measured_at (for_each asks) (λ ps. Leads_from (λ x past h. h.0) (Leads_each asks ps asks_stamp)))
    (Leads_either has_more (arms Probe PROBE) nothing (Leads_from (λ x past h. h.0) (arms_probe PROBE)) (Leads_from (λ x past h. h.0) Leads_nothing)))))
    (Leads_from (λ x past h. h.0) (Leads_then {Q = In is_master} (puts (Late Probe)) (puts Abandon) (does_rule (Late Probe) refl) (does_rule Abandon refl)))

due_armed : (o : Option ℕ) (x : ℕ) → is_over o x ≡ true → is_some o ≡ true
due_armed None x e = absurd (true≢false (sym e))
due_armed (Some at) x e = refl

alarm : (own wait : Bool) (a : Alarm) → Leads (λ x past. Base x past × (is_due a x past ≡ true)) (alarm_rings own wait a) Base
unfolding alarm_rings
alarm own wait Quiet = Leads_from (λ x past h. (h.0, h.0.alarms Quiet (due_armed (armed past.seen).quiet x h.1))) quiet_row
alarm own wait Search = Leads_from (λ x past h. (h.0, h.0.alarms Search (due_armed (armed past.seen).search x h.1))) search_row
alarm own wait Elect = Leads_from (λ x past h. (h.0, h.0.alarms Elect (due_armed (armed past.seen).elect x h.1))) elect_row
alarm own wait Window = Leads_from (λ x past h. (h.0, h.0.alarms Window (due_armed (armed past.seen).window x h.1))) window_row
alarm own wait ResolveAlarm = Leads_from (λ x past h. (h.0, h.0.alarms ResolveAlarm (due_armed (armed past.seen).resolve x h.1))) resolve_row
alarm own wait Probe = Leads_from (λ x past h. (h.0, h.0.alarms Probe (due_armed (armed past.seen).probe x h.1))) (drop is_master probe_row)
alarm own wait CloseAlarm = Leads_from (λ x past h. (h.0, h.0.alarms CloseAlarm (due_armed (armed past.seen).close x h.1)))
    (drop is_master (rule_built {sorts = close_sorts} refl refl (built_close_rings own)))
alarm own wait Round = Leads_from (λ x past h. (h.0, h.0.alarms Round (due_armed (armed past.seen).round x h.1))) (drop is_master (round_row wait))

pub rings_moved : (own wait : Bool) (a : Alarm) → Leads Base (rings own wait a) Base
unfolding rings
rings_moved own wait a = Leads_either (is_due a) (alarm_rings own wait a) nothing (alarm own wait a) (Leads_from (λ x past h. h.0) Leads_nothing)
