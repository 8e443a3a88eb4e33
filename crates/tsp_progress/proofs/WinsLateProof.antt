-- A candidate wins no sooner than WINDOW after it stood for election.
use Rattle.std.proofs.Common.{sym, ap, subst, arith, true≢false, ◌∙◌, ◌≡◌, ◌≤◌, ℕ, ◌+◌, Bool, true, false, List, [], ◌∷◌, Some, refl}
use Rattle.tsp_rules.specs.Values.{Act, Boot, Become, Arm, Ring, Late, Alarm, Quiet, Search, Elect, Window, Probe, CloseAlarm, ResolveAlarm, Round, Master}
use Rattle.tsp_rules.specs.Values.{MasterUp, WINDOW, ROUND}
use Rattle.tsp_rules.specs.Answers.{alarm_rings, rings}
use Rattle.tsp_rules.specs.CandidateRows.{has_won, lead_row, window_rings, yields}
use Rattle.tsp_rules.specs.Guards.{is_due, is_in_time}
use Rattle.tsp_rules.specs.SendRows.{due_sends}
use Rattle.tsp_base.specs.Words.{Acts, Deed, Did, Elsewhere, Here, Leads, Past, Seen, armed, armed_after, arms, either_by, nothing, of, plain}
use Rattle.tsp_base.specs.Words.{posts_to_others, puts, stood, stood_after, tick_of, view, ◌followed_by◌}
use Rattle.tsp_base.proofs.LeadsLemmas.{Leads_either, Leads_from, Leads_nothing, Leads_puts, Leads_then}
use Rattle.tsp_rules.proofs.Emits.{Sort, Leading, Alarming, Posting, Emits_arms, Emits_posts_to_others, is_in, sort_of}
use Rattle.tsp_rules.proofs.{BuiltSends.built_due_sends, BuiltSends.send_sorts, EmitsBuilt.emits_built, BuiltRoles.built_yields, BuiltRoles.yield_sorts}
use Rattle.tsp_rules.proofs.BuiltRoles.{built_quiet_rings, built_search_rings, built_elect_rings, built_resolve_rings, resolve_sorts}
use Rattle.tsp_rules.proofs.BuiltShared.{loose_sorts, standing_sorts}
use Rattle.tsp_rules.proofs.BuiltRounds.{asking_sorts, built_close_rings, built_probe_rings, built_round_rings, close_sorts}
use Rattle.tsp_promises.specs.{DeedFits.DeedFits, HoldFits.LeadFits, PortFits.PortFits, Setting.setup_of}
use Rattle.tsp_promises.proofs.promised.OwnFitsProof.{own_fits, port_fits}
use Rattle.tsp_base.specs.Words.{Setup}
use Rattle.tsp_run.specs.Clocked.{clocks_of, run_by}
use Rattle.tsp_run.proofs.{OwnClocks.possible_own, OwnClocks.runs_by_own_clocks, OwnClocks.set_own, RunFits.clocked_runs_fit}
use Rattle.tsp_progress.specs.AlarmsFit.{AlarmFits, AlarmsFit, Manner, newest_is}
use Rattle.tsp_progress.specs.CausesFit.{wins_by}
use Rattle.tsp_progress.specs.{GivenUp.Owes, RunsWake.manner_of, WinsLate.ClockedRunsWinLate, WinsLate.RunsWinLate, WinsLate.WinsLate, WinsLate.WonFits}
use Rattle.tsp_progress.proofs.{DebtKeeps.OwedBy, DebtKeeps.Paid, DebtKeeps.pays, DebtKeeps.runs_pay, DebtKeeps.takes_calmly, RunWakes.clocked_runs_wake}
use Rattle.tsp_progress.proofs.{StandsProof.Rising}
use Rattle.tsp_progress.proofs.StandsProof.{rising}

-- who wins has just had its Window ring
abbrev RangFits : Deed → Did → List Seen → Type 0
RangFits (Acts (Become Master)) here before = newest_is wins_by before ≡ true
RangFits _ here before = Unit {0}

unled : (sorts : List Sort) → is_in Leading sorts ≡ false → (a : Act) → is_in (sort_of a) sorts ≡ true → (d : Did) (before : List Seen) →
    RangFits (Acts a) d before
unled sorts none (Become Master) e d before = absurd (true≢false (sym e ∙ none))
unled sorts none _ e d before = tt

by_leading : OwedBy Leading RangFits
by_leading = record { mark = λ d before. tt; free = unled }

-- the window ends
abbrev Rung : ℕ → Past → Type 0
Rung x past = Owes RangFits past.seen × (newest_is wins_by past.seen ≡ true)

lead : Leads Rung lead_row (Paid RangFits)
unfolding lead_row
lead = Leads_then {Q = Paid RangFits} (puts (Become Master)) (arms Round ROUND followed_by posts_to_others MasterUp 0)
    (Leads_puts (Become Master) (λ x past h. (h.1, h.0)))
    (Leads_then {Q = Paid RangFits} (arms Round ROUND) (posts_to_others MasterUp 0)
    (pays by_leading (Alarming ∷ []) (arms Round ROUND) refl (Emits_arms Round ROUND refl))
    (pays by_leading (Posting ∷ []) (posts_to_others MasterUp 0) refl (Emits_posts_to_others MasterUp 0 refl)))

yield : Leads (Paid RangFits) yields (Paid RangFits)
yield = pays by_leading yield_sorts yields refl (emits_built refl built_yields)

window : Leads (Paid RangFits) window_rings (Paid RangFits)
unfolding window_rings
window = Leads_either (is_in_time Window) (puts (Ring Window) followed_by either_by has_won lead_row yields) (puts (Late Window) followed_by yields)
    (Leads_then {Q = Rung} (puts (Ring Window)) (either_by has_won lead_row yields) (Leads_puts (Ring Window) (λ x past h. ((tt, h.0), refl)))
    (Leads_either has_won lead_row yields (Leads_from (λ x past h. h.0) lead) (Leads_from (λ x past h. h.0.0) yield)))
    (Leads_then {Q = Paid RangFits} (puts (Late Window)) yields (Leads_puts (Late Window) (λ x past h. (tt, h.0))) yield)

alarm : (own wait : Bool) (a : Alarm) → Leads (Paid RangFits) (alarm_rings own wait a) (Paid RangFits)
unfolding alarm_rings
alarm own wait Quiet = pays by_leading loose_sorts _ refl (emits_built refl built_quiet_rings)
alarm own wait Search = pays by_leading (Alarming ∷ []) _ refl (emits_built refl built_search_rings)
alarm own wait Elect = pays by_leading standing_sorts _ refl (emits_built refl built_elect_rings)
alarm own wait Window = window
alarm own wait Probe = pays by_leading asking_sorts _ refl (emits_built refl built_probe_rings)
alarm own wait CloseAlarm = pays by_leading close_sorts _ refl (emits_built refl (built_close_rings own))
alarm own wait ResolveAlarm = pays by_leading resolve_sorts _ refl (emits_built refl built_resolve_rings)
alarm own wait Round = pays by_leading asking_sorts _ refl (emits_built refl (built_round_rings wait))

rung : (own wait : Bool) (a : Alarm) → Leads (Paid RangFits) (rings own wait a) (Paid RangFits)
unfolding rings
rung own wait a = Leads_either (is_due a) (alarm_rings own wait a) nothing (Leads_from (λ x past h. h.0) (alarm own wait a))
    (Leads_from (λ x past h. h.0) Leads_nothing)

sends : Leads (Paid RangFits) due_sends (Paid RangFits)
sends = pays by_leading send_sorts due_sends refl (emits_built refl built_due_sends)

-- a port stood at its tick or before
stood_tick : (seen : List Seen) → Rising seen → (start : Did) (idle : List Seen) → stood seen ≡ Here start ∷ idle → start.tick ≤ tick_of (plain seen)
stood_tick [] up start idle e = let bad : ⊥ = cc in absurd bad
stood_tick (Elsewhere d ∷ before) up start idle e = let low = stood_tick before up.1 start idle e in let le = up.0 in omega (arith, low, le)
stood_tick (Here d ∷ before) up start idle e = by_deed d.deed e (λ k. stood_tick before up.1 start idle k) where
  later : start.tick ≤ tick_of (plain before) → start.tick ≤ d.tick
  later low = let le = up.0 in omega (arith, low, le)

  by_deed : (deed : Deed) → stood_after deed (Here d ∷ before) (stood before) ≡ Here start ∷ idle →
      (stood before ≡ Here start ∷ idle → start.tick ≤ tick_of (plain before)) → start.tick ≤ d.tick
  by_deed (Acts Boot) k f = let bad : ⊥ = cc in absurd bad
  by_deed (Acts (Become r)) k f = let same : d ≡ start = cc in let tick = ap (λ (j : Did). j.tick) same in omega (arith, tick)
  by_deed _ k f = later (f k)

some_value : {a b : ℕ} → Some a ≡ Some b → a ≡ b
some_value e = cc

-- its Window is armed for WINDOW ticks after that
window_after : (m : Manner) (seen : List Seen) → AlarmsFit m seen → Rising seen → (at : ℕ) → (armed seen).window ≡ Some at → (start : Did) (idle : List Seen) →
    stood seen ≡ Here start ∷ idle → start.tick + WINDOW ≤ at
window_after m [] f up at e start idle s = let bad : ⊥ = cc in absurd bad
window_after m (Elsewhere d ∷ before) f up at e start idle s = window_after m before f.1 up.1 at e start idle s
window_after m (Here d ∷ before) f up at e start idle s =
    by_deed d.deed f.0 e s (λ e s. window_after m before f.1.1 up.1 at e start idle s)
    (λ s. let low = stood_tick before up.1 start idle s in let le = up.0 in omega (arith, low, le)) where
      by_deed : (deed : Deed) → AlarmFits deed d before → (armed_after deed (armed before)).window ≡ Some at →
          stood_after deed (Here d ∷ before) (stood before) ≡ Here start ∷ idle →
          ((armed before).window ≡ Some at → stood before ≡ Here start ∷ idle → start.tick + WINDOW ≤ at) →
          (stood before ≡ Here start ∷ idle → start.tick ≤ d.tick) → start.tick + WINDOW ≤ at
      by_deed (Acts Boot) fit e s k low = let bad : ⊥ = cc in absurd bad
      by_deed (Acts (Become r)) fit e s k low = let bad : ⊥ = cc in absurd bad
      by_deed (Acts (Arm Window to)) fit e s k low = let same = some_value e in let soon = low s in omega (arith, fit, same, soon)
      by_deed (Acts (Ring Window)) fit e s k low = let bad : ⊥ = cc in absurd bad
      by_deed (Acts (Late Window)) fit e s k low = let bad : ⊥ = cc in absurd bad
      by_deed _ fit e s k low = k e s

-- so a win comes so late
module _ (m : Manner) (setup : Setup) where
  won : (d : Did) (before : List Seen) → LeadFits setup d before → newest_is wins_by before ≡ true → AlarmsFit m before → Rising (Here d ∷ before) →
      WonFits (Acts (Become Master)) d before
  won d [] lead e f up = absurd (true≢false (sym e))
  won d (Elsewhere r ∷ older) lead e f up = absurd (true≢false (sym e))
  won d (Here r ∷ older) lead e f up = by_deed r.deed refl e where
    by_deed : (deed : Deed) → r.deed ≡ deed → wins_by deed ≡ true → WonFits (Acts (Become Master)) d (Here r ∷ older)
    by_deed (Acts (Ring Window)) is w =
        let ring = subst (λ k. AlarmFits k r older) is f.0 in
        let stood_is : stood older ≡ Here lead.start ∷ lead.idle = ap (λ k. stood_after k (Here r ∷ older) (stood older)) (sym is) ∙ lead.start_is in
        let late = window_after m older f.1.1 up.1.1 ring.at ring.armed_is lead.start lead.idle stood_is in
        let due = ring.due in
        let le = up.0 in
        record { start = lead.start; idle = lead.idle; stood_is = lead.start_is; long = omega (arith, late, due, le) }
    by_deed _ is w = absurd (true≢false (sym w))

  by_deed_holds : (d : Did) (before : List Seen) (deed : Deed) → d.deed ≡ deed → RangFits deed d before → AlarmsFit m before → Rising (Here d ∷ before) →
      (deed ≡ Acts (Become Master) → LeadFits setup d before) → WonFits deed d before
  by_deed_holds d before (Acts (Become Master)) is r f up leads = won d before (leads refl) r f up
  by_deed_holds d before _ is r f up leads = tt

  all_won : (seen : List Seen) → PortFits setup seen → Owes RangFits seen → AlarmsFit m seen → Rising seen → Owes WonFits seen
  all_won [] p r f up = tt
  all_won (Elsewhere d ∷ before) p r f up = all_won before p r f.1 up.1
  all_won (Here d ∷ before) p r f up = (
    by_deed_holds d before d.deed refl r.0 f.1.1 up (λ e. (subst (λ k. DeedFits setup k d before) e p.0)),
    all_won before p.1 r.1 f.1.1 up.1,
  )

pub clocked_runs_win_late : ClockedRunsWinLate
clocked_runs_win_late clocks header setting events set possible n q =
    let world = run_by clocks header events in
    let fits = (clocked_runs_fit clocks header setting events set possible).0 in
    all_won (manner_of header n) (setup_of setting n q) (view q (of n world)) (port_fits setting n world fits q)
    (runs_pay by_leading refl sends rung (takes_calmly by_leading refl) clocks header events n q) ((clocked_runs_wake clocks header events).1 n q).acts
    (rising setting q (of n world) (own_fits setting n world fits))

pub runs_win_late : RunsWinLate
runs_win_late header setting events set possible = subst (λ h. WinsLate h) (runs_by_own_clocks header events)
    (clocked_runs_win_late (clocks_of header) header setting events (set_own header setting set) (possible_own header events possible))
