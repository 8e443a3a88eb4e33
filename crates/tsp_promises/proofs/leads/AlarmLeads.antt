-- The alarms of a port that is Loose or follows, and Resolve, keep what is known of it.
use Rattle.std.proofs.Common.{sym, subst, inl, inr, arith, ◌∙◌, true≢false, ◌≡◌, ◌≤◌, ℕ, ◌+◌, Bool, true, false, refl, Option, None, []}
use Rattle.std.proofs.lemmas.Bool.{and_parts}
use Rattle.tsp_promises.proofs.{leads.Known.Sleeps, leads.Known.Free, leads.Known.Open, leads.Known.Untaken, leads.Leaves.none-some}
use Rattle.tsp_promises.proofs.{leads.TakenLeads.master_awake}
use Rattle.tsp_promises.proofs.leads.Changes.{FreeIn, become_loose, late, open_of, rested_of, ring}
use Rattle.tsp_promises.proofs.leads.CommonLeads.{arms_elect_during, searches_during, begins_quit, candidature_leads}
use Rattle.tsp_rules.specs.Values.{Become, Ring, Late, Alarm, Quiet, Elect, Search, ResolveAlarm, QuitKind, Starting, Loose, Master, QUIET}
use Rattle.tsp_rules.specs.{Answers.alarm_rings, Answers.rings, CommonRows.arms_elect, CommonRows.searches, CommonRows.candidature_row}
use Rattle.tsp_rules.{specs.ResolveRows.quits_rivals, specs.ResolveRows.resolve_rings, proofs.GuardFacts.due_is, proofs.GuardFacts.stand_is}
use Rattle.tsp_rules.specs.SendRows.{begins}
use Rattle.tsp_rules.specs.SlaveRows.{quiet_rings, rings_or_late, search_rings, loosens, elect_rings}
use Rattle.tsp_rules.specs.Guards.{is_due, is_in_time, is_follow, may_stand_at, follows_at, rivals_at, is_over}
use Rattle.tsp_base.specs.Words.{Past, plain, may_stand, Leads, boot_tick, role, held, armed, nothing, puts, ◌followed_by◌, either_by, for_each, open_to}
use Rattle.tsp_base.proofs.LeadsLemmas.{Leads_then, Leads_either, Leads_reading, Leads_nothing, Leads_puts, Leads_each, Leads_from, Leads_to}

-- a port whose alarm is due
abbrev pub Due : Alarm → ℕ → Past → Type 0
Due alarm x past = Open x past × (is_due alarm x past ≡ true)

-- an alarm's turn
pub rings_lead : {P Q : ℕ → Past → Type 0} (own wait : Bool) (alarm : Alarm) → Leads (λ x past. P x past ×
    (is_due alarm x past ≡ true)) (alarm_rings own wait alarm) Q → ((x : ℕ) (past : Past) → P x past → is_due alarm x past ≡ false → Q x past) →
    Leads P (rings own wait alarm) Q
unfolding rings
rings_lead own wait alarm k idle = Leads_either (is_due alarm) (alarm_rings own wait alarm) nothing k
    (Leads_from (λ x past h. idle x past h.0 h.1) Leads_nothing)

pub stays : (alarm : Alarm) (x : ℕ) (past : Past) → Open x past → is_due alarm x past ≡ false → Open x past
stays alarm x past h e = h

-- the quiet time is over for a port whose alarm is due, unless that is Quiet
alarm_rested : (x : ℕ) (past : Past) (o : Option ℕ) → Open x past → is_over o x ≡ true →
    (Sleeps (role past.seen) (armed past.seen).search (armed past.seen).elect (armed past.seen).resolve (λ p. open_to p past.seen) → o ≡ None) →
    boot_tick (plain past.seen) + QUIET ≤ x
alarm_rested x past o h over off = let due = due_is o x over in elim h.knows.quiet.rested [ inl z ↦ none-some due.at (sym (off z) ∙ due.is) | inr r ↦ r ]

-- a master's quiet time is over
pub master_rested : (x : ℕ) (past : Past) → Open x past → role past.seen ≡ Master → boot_tick (plain past.seen) + QUIET ≤ x
master_rested x past h e = rested_of x (boot_tick (plain past.seen)) h.knows.quiet.rested (master_awake (role past.seen) e)

pub quiet_leads : (own wait : Bool) → Leads Open (rings own wait Quiet) Open
unfolding alarm_rings quiet_rings
quiet_leads own wait = rings_lead own wait Quiet
    (Leads_then {Q = FreeIn [] Untaken Starting} (puts (Ring Quiet)) (puts (Become Loose) followed_by searches)
    (Leads_puts (Ring Quiet) (λ x past h.
    let due = due_is (armed past.seen).quiet x h.1 in
    let silent = h.0.knows.quiet.silent due.at due.is in
    record { free = ring Quiet refl (omega (arith, silent.1, due.over)) h.0; role_is = silent.0 }))
    (Leads_to (λ x past h. open_of h) (Leads_then {Q = Free Untaken} (puts (Become Loose)) searches
    (Leads_puts (Become Loose) (λ x past h. become_loose (λ e. let s = h.role_is in let bad : ⊥ = cc in absurd bad) h.free))
    searches_during)))
    (stays Quiet)

pub search_leads : (own wait : Bool) → Leads Open (rings own wait Search) Open
unfolding alarm_rings search_rings rings_or_late
search_leads own wait = rings_lead own wait Search
    (Leads_to (λ x past h. open_of h) (Leads_then {Q = Free Untaken} (rings_or_late Search) arms_elect
    (Leads_either (is_in_time Search) (puts (Ring Search)) (puts (Late Search))
    (Leads_puts (Ring Search) (λ x past h. ring Search refl (alarm_rested x past (armed past.seen).search h.0.0 h.0.1 (λ z. z.unsearched)) h.0.0))
    (Leads_puts (Late Search) (λ x past h. late Search refl (alarm_rested x past (armed past.seen).search h.0.0 h.0.1 (λ z. z.unsearched)) h.0.0)))
    arms_elect_during))
    (stays Search)

loosens_leads : Leads (Free Untaken) loosens (Free Untaken)
unfolding loosens
loosens_leads = Leads_either follows_at (puts (Become Loose)) nothing
    (Leads_puts (Become Loose) (λ x past h. become_loose (λ is. absurd (true≢false (sym h.1 ∙ subst (λ k. is_follow k ≡ false) (sym is) refl))) h.0))
    (Leads_from (λ x past h. h.0) Leads_nothing)

pub elect_leads : (own wait : Bool) → Leads Open (rings own wait Elect) Open
unfolding alarm_rings elect_rings
elect_leads own wait = rings_lead own wait Elect
    (Leads_either (is_in_time Elect) (puts (Ring Elect) followed_by either_by may_stand_at candidature_row (loosens followed_by searches))
    (puts (Late Elect) followed_by arms_elect)
    (Leads_then {Q = Free Untaken} (puts (Ring Elect)) (either_by may_stand_at candidature_row (loosens followed_by searches))
    (Leads_puts (Ring Elect) (λ x past h. ring Elect refl (alarm_rested x past (armed past.seen).elect h.0.0 h.0.1 (λ z. z.unelected)) h.0.0))
    (Leads_either may_stand_at candidature_row (loosens followed_by searches)
    (Leads_from (λ x past h. record {
      free = h.0;
      may = stand_is (held past.seen) x past.own (and_parts past.may (may_stand (held past.seen) x past.own) h.1).1;
    })
    (Leads_to (λ x past h. open_of h.free) candidature_leads))
    (Leads_from (λ x past h. h.0) (Leads_to (λ x past h. open_of h) (Leads_then loosens searches loosens_leads searches_during)))))
    (Leads_to (λ x past h. open_of h) (Leads_then {Q = Free Untaken} (puts (Late Elect)) arms_elect
    (Leads_puts (Late Elect) (λ x past h. late Elect refl (alarm_rested x past (armed past.seen).elect h.0.0 h.0.1 (λ z. z.unelected)) h.0.0))
    arms_elect_during)))
    (stays Elect)

pub resolve_leads : (own wait : Bool) → Leads Open (rings own wait ResolveAlarm) Open
unfolding alarm_rings resolve_rings quits_rivals
resolve_leads own wait = rings_lead own wait ResolveAlarm
    (Leads_to (λ x past h. open_of h) (Leads_either (is_in_time ResolveAlarm) (puts (Ring ResolveAlarm) followed_by quits_rivals) (puts (Late ResolveAlarm))
    (Leads_then {Q = Free Untaken} (puts (Ring ResolveAlarm)) quits_rivals
    (Leads_puts (Ring ResolveAlarm) (λ x past h. ring ResolveAlarm refl (alarm_rested x past (armed past.seen).resolve h.0.0 h.0.1 (λ z. z.unresolved)) h.0.0))
    (Leads_reading rivals_at (for_each (begins QuitKind)) (λ ps. Leads_from (λ x past h. h.0) (Leads_each (begins QuitKind) ps begins_quit))))
    (Leads_puts (Late ResolveAlarm) (λ x past h. late ResolveAlarm refl
    (alarm_rested x past (armed past.seen).resolve h.0.0 h.0.1 (λ z. z.unresolved)) h.0.0))))
    (stays ResolveAlarm)
