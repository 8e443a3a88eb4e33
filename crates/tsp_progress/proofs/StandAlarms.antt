-- What is due, a send or an alarm, keeps what is said of candidates and of the quiet time.
use Rattle.std.proofs.Common.{sym, ap, inl, inr, true≢false, ◌∙◌, ◌≡◌, ℕ, Bool, true, false}
use Rattle.std.proofs.Common.{List, [], ◌∷◌, Option, None, Some, refl}
use Rattle.tsp_rules.specs.Values.{Act, Abandon, Become, Gave, Late, Leave, Post, Ring, Message}
use Rattle.tsp_rules.specs.Values.{Alarm, CloseAlarm, Elect, Probe, Quiet, ResolveAlarm, Round, Search, Window, Kind}
use Rattle.tsp_rules.specs.Values.{Conflict, MasterUp, QuitKind}
use Rattle.tsp_rules.specs.Values.{PeerId, Peer, Role}
use Rattle.tsp_rules.specs.Values.{Starting, Loose, Candidate, Master, CLOSE, PROBE, ROUND, WAIT}
use Rattle.tsp_rules.specs.Answers.{alarm_rings, rings}
use Rattle.tsp_rules.specs.CandidateRows.{has_won, lead_row, window_rings, yields}
use Rattle.tsp_rules.specs.CommonRows.{arms_elect, candidature_row, searches}
use Rattle.tsp_rules.specs.Guards.{follows_at, is_due, is_in_time, is_over, is_starting_role}
use Rattle.tsp_rules.specs.Guards.{may_stand_at, rivals_at, table_at}
use Rattle.tsp_rules.specs.ResolveRows.{quits_rivals, resolve_rings}
use Rattle.tsp_rules.specs.RoundRows.{abandons, arms_next, asks, asks_measured, asks_slaves, begins_or_waits, has_more, measured_at, probe_rings, round_begins}
use Rattle.tsp_rules.specs.RoundRows.{round_rings}
use Rattle.tsp_rules.specs.SendRows.{begins, due_send, due_sends, gives_up}
use Rattle.tsp_rules.specs.SendRows.{is_free, is_send_due, is_spent, leaves_after, next_number, open_at, peers_at, repeats, repeats_send}
use Rattle.tsp_rules.specs.SlaveRows.{elect_rings, loosens, quiet_rings}
use Rattle.tsp_rules.specs.SlaveRows.{reports_conflict, rings_or_late, search_rings}
use Rattle.tsp_base.specs.Words.{Acts, Leads, MessageValue, Past, Sending, armed}
use Rattle.tsp_base.specs.Words.{arms, bare, either_by, for_each, grown, is_correction, nothing, open_send, posts}
use Rattle.tsp_base.specs.Words.{posts_to_others, puts, reading, role, ◌followed_by◌}
use Rattle.tsp_base.proofs.LeadsLemmas.{Leads_each, Leads_either, Leads_from, Leads_nothing, Leads_puts, Leads_reading, Leads_then, Leads_to}
use Rattle.tsp_rules.proofs.BuiltRounds.{built_close_rings, close_sorts}
use Rattle.tsp_progress.specs.{Heeds.is_candidate_role}
use Rattle.tsp_progress.proofs.{PortWakes.Leads_if}
use Rattle.tsp_progress.proofs.StandActs.{refuses_kind, Apart, In, Keeping, Other, Pending, RangElect, Sound, Up, arms_calm, becomes_loose, built, calm}
use Rattle.tsp_progress.proofs.StandActs.{calm_other, calm_sound, calm_up, changes, elects, ends_window, in_up, is_calm, pending, search}
use Rattle.tsp_progress.proofs.StandActs.{settled, stands, to_others, up_other, yield}

-- a send with the port's own number, of a port that is no candidate
pub sends_other : (p : PeerId) (m : MessageValue) → refuses_kind m.kind ≡ false → (x : ℕ) (past : Past) → Other x past →
    Other x (grown x past (Post (Peer p) (Message m) ∷ []))
sends_other p m none x past h = (
  record {
    kept = (
      settled past h.0 (Acts (Post (Peer p) (Message m))) _ (
        λ own candidate. absurd (true≢false (sym (ap is_candidate_role candidate) ∙ h.1)),
        λ refuses. absurd (true≢false (sym refuses ∙ none)),
      ),
      h.0.kept,
    );
    rest = h.0.rest;
    free = refl;
  },
  h.1,
)

pub begun_other : (kind : Kind) (p : PeerId) → refuses_kind kind ≡ false → Leads Other (begins kind p) Other
unfolding begins posts
begun_other kind p none = Leads_reading next_number (posts p kind) (λ n. record {
  run = λ x past h. sends_other p (bare kind n past.name) none x past h.0;
})

pub conflict : (q : PeerId) → Leads Other (reports_conflict q) Keeping
unfolding reports_conflict
conflict q = Leads_either (is_free q) (begins Conflict q) nothing (Leads_from (λ x past h. h.0) (Leads_to (λ x past h. h.0) (begun_other Conflict q refl)))
    (Leads_from (λ x past h. h.0.0) Leads_nothing)

-- due sends
repeated : (p : PeerId) (s : Sending) (x : ℕ) (past : Past) → Sound past.seen → open_send p past.seen ≡ Some s →
    Sound (grown x past (Post (Peer p) (Message s.message) ∷ [])).seen
repeated p s x past h open_is = record {
  kept = (
    settled past h (Acts (Post (Peer p) (Message s.message))) _ (
      λ own candidate. inr (record { sending = s; open_is = open_is; same = refl }),
      λ refuses. inr (record { sending = s; open_is = open_is; same = refl }),
    ),
    h.kept,
  );
  rest = h.rest;
  free = refl;
}

left : (p : PeerId) (k : Kind) → Leads Keeping (leaves_after p k) Keeping
unfolding leaves_after
left p k = Leads_if (is_correction k) (either_by _ (puts (Leave p)) nothing) nothing
    (Leads_either _ (puts (Leave p)) nothing (Leads_from (λ x past h. h.0) (calm (Leave p) refl)) (Leads_from (λ x past h. h.0) Leads_nothing)) Leads_nothing

due : (p : PeerId) (o : Option Sending) → Leads (λ x past. Keeping x past × (open_at p x past ≡ o)) (repeats_send p o) Keeping
unfolding repeats_send gives_up repeats
due p None = Leads_from (λ x past h. h.0) Leads_nothing
due p (Some s) =
    let gives = puts (Gave p) followed_by leaves_after p s.message.kind in
    let again = puts (Post (Peer p) (Message s.message)) in
    Leads_either (is_send_due s) (either_by (is_spent s) gives again) nothing
    (Leads_either (is_spent s) gives again
    (Leads_then {Q = Keeping} (puts (Gave p)) (leaves_after p s.message.kind) (Leads_from (λ x past h. h.0.0.0) (calm (Gave p) refl)) (left p s.message.kind))
    (Leads_puts (Post (Peer p) (Message s.message)) (λ x past h. repeated p s x past h.0.0.0 h.0.0.1)))
    (Leads_from (λ x past h. h.0.0) Leads_nothing)

pub sends : Leads Keeping due_sends Keeping
unfolding due_sends due_send
sends = Leads_reading peers_at (for_each (λ p. reading (open_at p) (repeats_send p))) (λ ps. Leads_from (λ x past h. h.0)
    (Leads_each (λ p. reading (open_at p) (repeats_send p)) ps (λ p. Leads_reading (open_at p) (repeats_send p) (due p))))

-- alarms
due_alarm : {A : Type 0} (o : Option ℕ) (x : ℕ) → is_over o x ≡ true → o ≡ None → A
due_alarm o x e none = absurd (true≢false (sym e ∙ ap (λ o. is_over o x) none))

pub not_starting : (r : Role) → (r ≡ Starting → ⊥) → is_starting_role r ≡ false
not_starting Starting n = absurd (n refl)
not_starting _ n = refl

not_candidate : (r : Role) → (r ≡ Candidate → ⊥) → is_candidate_role r ≡ false
not_candidate Candidate n = absurd (n refl)
not_candidate _ n = refl

due_elect : (x : ℕ) (past : Past) → Keeping x past → is_due Elect x past ≡ true → Up x past
due_elect x past h e = (
  h,
  (
    not_starting (role past.seen) (λ is. due_alarm (armed past.seen).elect x e (h.rest.elect is)),
    not_candidate (role past.seen) (λ is. due_alarm (armed past.seen).elect x e (h.rest.elect_off is)),
  ),
)

due_search : (x : ℕ) (past : Past) → Keeping x past → is_due Search x past ≡ true → Up x past
due_search x past h e = (
  h,
  (
    not_starting (role past.seen) (λ is. due_alarm (armed past.seen).search x e (h.rest.search is)),
    not_candidate (role past.seen) (λ is. due_alarm (armed past.seen).search x e (h.rest.search_off is)),
  ),
)

due_quiet : (x : ℕ) (past : Past) → Keeping x past → is_due Quiet x past ≡ true → Other x past
due_quiet x past h e = (h, not_candidate (role past.seen) (λ is. due_alarm (armed past.seen).quiet x e (h.rest.quiet_off is)))

due_resolve : (x : ℕ) (past : Past) → Keeping x past → is_due ResolveAlarm x past ≡ true → Other x past
due_resolve x past h e = (h, not_candidate (role past.seen) (λ is. due_alarm (armed past.seen).resolve x e (h.rest.resolve is)))

ring_or_late : (a : Alarm) → Leads Up (rings_or_late a) Up
unfolding rings_or_late
ring_or_late a = Leads_either (is_in_time a) (puts (Ring a)) (puts (Late a)) (Leads_from (λ x past h. h.0) (calm_up (Ring a) refl))
    (Leads_from (λ x past h. h.0) (calm_up (Late a) refl))

quiet_rings_holds : Leads Other quiet_rings Keeping
unfolding quiet_rings
quiet_rings_holds = Leads_then {Q = Other} (puts (Ring Quiet)) (puts (Become Loose) followed_by searches) (calm_other (Ring Quiet) refl)
    (Leads_then {Q = In Loose} (puts (Become Loose)) searches (Leads_from pending becomes_loose) (Leads_from (in_up Loose refl refl) search))

search_rings_holds : Leads Up search_rings Keeping
unfolding search_rings
search_rings_holds = Leads_then {Q = Up} (rings_or_late Search) arms_elect (ring_or_late Search) (Leads_to (λ x past h. h.0) elects)

-- Elect rang now
abbrev Rang : ℕ → Past → Type 0
Rang x past = Up x past × RangElect past.seen

loosen : Leads Up loosens Up
unfolding loosens
loosen = Leads_either follows_at (puts (Become Loose)) nothing
    (Leads_from (λ x past h. pending x past (up_other x past h.0)) (Leads_to (in_up Loose refl refl) becomes_loose))
    (Leads_from (λ x past h. h.0) Leads_nothing)

elect_rings_holds : Leads Up elect_rings Keeping
unfolding elect_rings
elect_rings_holds = Leads_either (is_in_time Elect) (puts (Ring Elect) followed_by either_by may_stand_at candidature_row (loosens followed_by searches))
    (puts (Late Elect) followed_by arms_elect)
    (Leads_then {Q = Rang} (puts (Ring Elect)) (either_by may_stand_at candidature_row (loosens followed_by searches))
    (Leads_puts (Ring Elect) (λ x past h. (
      (calm_sound (Ring Elect) refl x past h.0.0, h.0.1),
      record { ring = record { step = past.step; tick = x; deed = Acts (Ring Elect) }; rest = past.seen; is = refl; deed = refl },
    )))
    (Leads_either may_stand_at candidature_row (loosens followed_by searches) (Leads_from (λ x past h. (up_other x past h.0.0, inl h.0.1)) stands)
    (Leads_from (λ x past h. h.0.0) (Leads_then {Q = Up} loosens searches loosen search))))
    (Leads_from (λ x past h. h.0) (Leads_then {Q = Up} (puts (Late Elect)) arms_elect (calm_up (Late Elect) refl) (Leads_to (λ x past h. h.0) elects)))

lead : Leads Keeping lead_row Keeping
unfolding lead_row
lead = Leads_then {Q = Keeping} (puts (Become Master)) (arms Round ROUND followed_by posts_to_others MasterUp 0)
    (Leads_puts (Become Master) (λ x past h. (changes Master x past h tt).0))
    (Leads_then {Q = Keeping} (arms Round ROUND) (posts_to_others MasterUp 0) (arms_calm Round ROUND refl) (to_others MasterUp refl))

-- the window ended now
ended : (a : Act) → is_calm a ≡ true → ends_window (Acts a) ≡ true → (x : ℕ) (past : Past) → Keeping x past → Pending x (grown x past (a ∷ []))
ended a e ends x past h = let s = calm_sound a e x past h in record { kept = s.kept; rest = s.rest; why = λ c. inl ends }

window_rings_holds : Leads Keeping window_rings Keeping
unfolding window_rings
window_rings_holds = Leads_either (is_in_time Window) (puts (Ring Window) followed_by either_by has_won lead_row yields) (puts (Late Window) followed_by yields)
    (Leads_from (λ x past h. h.0) (Leads_then {Q = λ x past. Keeping x past × Pending x past} (puts (Ring Window)) (either_by has_won lead_row yields)
    (Leads_puts (Ring Window) (λ x past h. (calm_sound (Ring Window) refl x past h, ended (Ring Window) refl refl x past h)))
    (Leads_either has_won lead_row yields (Leads_from (λ x past h. h.0.0) lead) (Leads_from (λ x past h. h.0.1) yield))))
    (Leads_from (λ x past h. h.0) (Leads_then {Q = Pending} (puts (Late Window)) yields
    (Leads_puts (Late Window) (λ x past h. ended (Late Window) refl refl x past h)) yield))

ask : (p : PeerId) → Leads Keeping (asks p) Keeping
unfolding asks
ask p = record { run = λ x past h. calm_sound _ refl x past h }

ask_each : (ps : List PeerId) → Leads Keeping (for_each asks ps) Keeping
ask_each ps = Leads_each asks ps ask

pub abandon : Leads Keeping abandons Keeping
unfolding abandons
abandon = calm Abandon refl

probe_rings_holds : Leads Keeping probe_rings Keeping
unfolding probe_rings asks_measured arms_next
probe_rings_holds = Leads_either (is_in_time Probe) (puts (Ring Probe) followed_by (asks_measured followed_by arms_next))
    (puts (Late Probe) followed_by abandons)
    (Leads_from (λ x past h. h.0) (Leads_then {Q = Keeping} (puts (Ring Probe)) (asks_measured followed_by arms_next) (calm (Ring Probe) refl)
    (Leads_then {Q = Keeping} asks_measured arms_next
    (Leads_reading measured_at (for_each asks) (λ ps. Leads_from (λ x past h. h.0) (ask_each ps)))
    (Leads_either has_more (arms Probe PROBE) nothing (Leads_from (λ x past h. h.0) (arms_calm Probe PROBE refl))
    (Leads_from (λ x past h. h.0) Leads_nothing)))))
    (Leads_from (λ x past h. h.0) (Leads_then {Q = Keeping} (puts (Late Probe)) abandons (calm (Late Probe) refl) abandon))

begins_round : (wait : Bool) → Leads Keeping (begins_or_waits wait) Keeping
unfolding begins_or_waits round_begins asks_slaves
begins_round true = arms_calm Round WAIT refl
begins_round false = Leads_then {Q = Keeping} (arms Round ROUND) _ (arms_calm Round ROUND refl)
    (Leads_then {Q = Keeping} (arms Probe PROBE) _ (arms_calm Probe PROBE refl)
    (Leads_then {Q = Keeping} (arms CloseAlarm CLOSE) _ (arms_calm CloseAlarm CLOSE refl)
    (Leads_then {Q = Keeping} (posts_to_others MasterUp 0) asks_slaves (to_others MasterUp refl)
    (Leads_reading table_at (for_each asks) (λ ps. Leads_from (λ x past h. h.0) (ask_each ps))))))

round_rings_holds : (wait : Bool) → Leads Keeping (round_rings wait) Keeping
unfolding round_rings
round_rings_holds wait = Leads_either (is_in_time Round) (puts (Ring Round) followed_by begins_or_waits wait) (puts (Late Round) followed_by arms Round ROUND)
    (Leads_from (λ x past h. h.0) (Leads_then {Q = Keeping} (puts (Ring Round)) (begins_or_waits wait) (calm (Ring Round) refl) (begins_round wait)))
    (Leads_from (λ x past h. h.0) (Leads_then {Q = Keeping} (puts (Late Round)) (arms Round ROUND) (calm (Late Round) refl) (arms_calm Round ROUND refl)))

resolve_rings_holds : Leads Other resolve_rings Keeping
unfolding resolve_rings quits_rivals
resolve_rings_holds = Leads_either (is_in_time ResolveAlarm) (puts (Ring ResolveAlarm) followed_by quits_rivals) (puts (Late ResolveAlarm))
    (Leads_from (λ x past h. h.0) (Leads_then {Q = Other} (puts (Ring ResolveAlarm)) quits_rivals (calm_other (Ring ResolveAlarm) refl)
    (Leads_to (λ x past h. h.0) (Leads_reading rivals_at (for_each (begins QuitKind)) (λ ps. Leads_from (λ x past h. h.0)
    (Leads_each (begins QuitKind) ps (λ p. begun_other QuitKind p refl)))))))
    (Leads_from (λ x past h. h.0.0) (calm (Late ResolveAlarm) refl))

closing : Apart close_sorts
closing = record {
  booting = refl;
  leading = refl;
  following = refl;
  changing = refl;
  alarming = refl;
  acking = refl;
  numbering = refl;
  passing = refl;
  posting = refl;
}

alarm : (own wait : Bool) (a : Alarm) → Leads (λ x past. Keeping x past × (is_due a x past ≡ true)) (alarm_rings own wait a) Keeping
unfolding alarm_rings
alarm own wait Quiet = Leads_from (λ x past h. due_quiet x past h.0 h.1) quiet_rings_holds
alarm own wait Search = Leads_from (λ x past h. due_search x past h.0 h.1) search_rings_holds
alarm own wait Elect = Leads_from (λ x past h. due_elect x past h.0 h.1) elect_rings_holds
alarm own wait Window = Leads_from (λ x past h. h.0) window_rings_holds
alarm own wait Probe = Leads_from (λ x past h. h.0) probe_rings_holds
alarm own wait CloseAlarm = Leads_from (λ x past h. h.0) (built {sorts = close_sorts} refl closing (built_close_rings own))
alarm own wait ResolveAlarm = Leads_from (λ x past h. due_resolve x past h.0 h.1) resolve_rings_holds
alarm own wait Round = Leads_from (λ x past h. h.0) (round_rings_holds wait)

pub rung : (own wait : Bool) (a : Alarm) → Leads Keeping (rings own wait a) Keeping
unfolding rings
rung own wait a = Leads_either (is_due a) (alarm_rings own wait a) nothing (alarm own wait a) (Leads_from (λ x past h. h.0) Leads_nothing)
