-- A Close that is due, late or in time.
use Rattle.std.proofs.Common.{◌≡◌, ℕ, ◌+ℤ◌, ◌&&◌, Bool, true, false, List, [], ◌∷◌, None, ℤ, refl, sym, ◌∙◌, ap}
use Rattle.tsp_rules.specs.Values.{Ring, Late, Abandon, Placed, CloseAlarm, Port, SPAN}
use Rattle.tsp_base.specs.Words.{Deadlines, Past, Performs, armed, either_by, grown, puts, reading, ◌followed_by◌}
use Rattle.tsp_base.proofs.PerformsLemmas.{Performs_else_part, Performs_from, Performs_reading, Performs_then, Performs_then_part}
use Rattle.tsp_group.specs.{Groups.group_of, declared.group.Group.Group}
use Rattle.tsp_rules.specs.RoundRows.{abandons, close_rings, closes, closes_with, corrects, estimates, mean_by, round_at}
use Rattle.tsp_rules.specs.Guards.{is_clock_value, is_in_time, is_met, is_over}
use Rattle.tsp_rules.{proofs.Emits.Emits_puts, specs.ClockRows.can_adjust}
use Rattle.tsp_acks.{proofs.ActingLemmas.Performs_acting, specs.Stands.StationStands, specs.declared.station.Station.Station}
use Rattle.tsp_clock.specs.{ClockStands.ClockStands, Clocks.ClockValue, Clocks.target_of}
use Rattle.tsp_measure.specs.Slaves.{entry_of, peers_of}
use Rattle.tsp_master.specs.{Closing.round_of, declared.master.Master.Master}
use Rattle.tsp_master.specs.MasterStands.{LeadStands, LeadState, MasterStands, RingStands, lead_of}
use Rattle.tsp_master.proofs.CloseLemmas.{closes_same, corrects_closes, goes_where, no_probe, round_is}
use Rattle.tsp_master.proofs.LeadLemmas.{ClockStands_still, Performs_lead, Performs_rung, in_time_is}
use Rattle.tsp_master.proofs.RoundLemmas.{MasterStands_abandon, MasterStands_late_close, MasterStands_ring_close}
use Rattle.tsp_master.proofs.TableLemmas.{MasterStands_same, target_is}

-- a station whose Close is due, and whose Probe isn't
abbrev pub IsClosing : ℕ → Station → Type 0
IsClosing x st = (is_over st.alarms.probe x ≡ false) × (is_over st.alarms.close x ≡ true)

past_due : (x : ℕ) (past : Past) (st : Station) → StationStands past st → IsClosing x st → is_over (armed past.seen).close x ≡ true
past_due x past st h due = ap (λ (d : Deadlines). is_over d.close x) (sym h.alarms) ∙ due.1

past_off : (x : ℕ) (past : Past) (m : Master) (st : Station) → StationStands past st → MasterStands past m → IsClosing x st → (armed past.seen).probe ≡ None
past_off x past m st h k due = no_probe x past m (ap (λ (d : Deadlines). is_over d.probe x) (sym h.alarms) ∙ due.0) (past_due x past st h due) k

pub Performs_abandons : {x : ℕ} {port : Port} {before after : Station} (m : Master) (clock : ClockValue) {old new : List Placed} →
    Performs StationStands StationStands (puts Abandon) x port before after old new →
    Performs LeadStands LeadStands abandons x port (lead_of m before clock) (lead_of m after clock) old new
unfolding abandons puts
Performs_abandons {x = x} m clock d = Performs_lead m m clock (Emits_puts Abandon refl) (λ past h. MasterStands_abandon x past m h.master) (Performs_acting d)

-- late the round is given up
pub Performs_late_close : (own : Bool) {x : ℕ} {port : Port} {before mid after : Station} (m : Master) (clock : ClockValue) {old first new : List Placed} →
    IsClosing x before → is_met before.alarms.close x ≡ false →
    Performs StationStands StationStands (puts (Late CloseAlarm)) x port before mid old first →
    Performs StationStands StationStands (puts Abandon) x port mid after first new →
    Performs RingStands LeadStands (close_rings own) x port (lead_of m before clock) (lead_of m after clock) old new
unfolding close_rings
Performs_late_close own {x = x} {before = before} m clock due late d e =
    Performs_else_part (is_in_time CloseAlarm) (reading round_at (closes own)) (λ past h. in_time_is CloseAlarm x past before h.station late)
    (Performs_then
    (Performs_rung {Q = LeadStands} (Late CloseAlarm) m m clock refl (λ past. refl)
    (λ past h. MasterStands_late_close x past m (past_off x past m before h.station h.master due) h.master) (λ past h k. k) d)
    (Performs_abandons m clock e))

-- in time it rings, and the round closes with its group
pub Performs_timely_close : (own : Bool) {x : ℕ} {port : Port} {before mid : Station} {last : LeadState} (m n : Master) (k : Group) (clock : ClockValue)
    {old first new : List Placed} → IsClosing x before → is_met before.alarms.close x ≡ true →
    k ≡ group_of SPAN (estimates (round_of m.slaves m.rounds)) → n.slaves ≡ m.slaves → n.rounds ≡ m.rounds →
    Performs StationStands StationStands (puts (Ring CloseAlarm)) x port before mid old first →
    Performs LeadStands LeadStands (closes_with own k (round_of m.slaves m.rounds)) x port (lead_of n mid clock) last first new →
    Performs RingStands LeadStands (close_rings own) x port (lead_of m before clock) last old new
unfolding close_rings closes
Performs_timely_close own {x = x} {before = before} {mid = mid} m n k clock due timely same ss rs d e =
    Performs_then_part (is_in_time CloseAlarm) (puts (Late CloseAlarm) followed_by abandons) (λ past h. in_time_is CloseAlarm x past before h.station timely)
    (Performs_reading round_at (closes own) (round_of m.slaves m.rounds) (λ past h. round_is x past m (goes_where x past (past_due x past before h.station due))
    h.master)
    (Performs_then
    (Performs_rung {Q = LeadStands} (Ring CloseAlarm) m m clock refl (λ past. refl)
    (λ past h. MasterStands_ring_close x past m (past_off x past m before h.station h.master due) h.master) (λ past h k. k) d)
    (closes_same own (round_of m.slaves m.rounds) same
    (Performs_from {p = LeadStands} {before = lead_of n mid clock}
    (λ past h. record {
      master = MasterStands_same past m n (ap peers_of ss) rs (λ q. ap (λ es. entry_of es q) ss) h.master;
      station = h.station;
      acted = h.acted;
      clock = h.clock;
    }) e))))

-- whether the clock can be moved, as the clock has it
pub can_adjust_is : (mean : ℤ) (x : ℕ) (past : Past) (clock : ClockValue) {b : Bool} → ClockStands past clock → is_clock_value (target_of clock x +ℤ mean) ≡ b →
    can_adjust mean x past ≡ b
can_adjust_is mean x past clock h e = ap (λ t. is_clock_value (t +ℤ mean)) (target_is x past clock h) ∙ e

-- whether such a close corrects
pub corrects_late : (own : Bool) (x : ℕ) (past : Past) (st : Station) → StationStands past st → is_met st.alarms.close x ≡ false →
    corrects (close_rings own x past) ≡ false
unfolding close_rings abandons puts either_by ◌followed_by◌
corrects_late own x past st h late = rw (in_time_is CloseAlarm x past st h late) refl

pub corrects_timely : (own : Bool) (x : ℕ) (past : Past) (m : Master) (st : Station) (clock : ClockValue) (k : Group) {can : Bool} →
    RingStands past (lead_of m st clock) → IsClosing x st → is_met st.alarms.close x ≡ true →
    k ≡ group_of SPAN (estimates (round_of m.slaves m.rounds)) → is_clock_value (target_of clock x +ℤ mean_by own k) ≡ can → corrects (close_rings own x past) ≡
    (can && own)
unfolding close_rings closes puts either_by reading ◌followed_by◌
corrects_timely own x past m st clock k {can = can} h due timely same e =
    let round = round_of m.slaves m.rounds in
    let later : Past = grown x past (Ring CloseAlarm ∷ []) in
    let is : corrects (closes_with own (group_of SPAN (estimates round)) round x later) ≡ (can && own) =
    ap (λ j. corrects (closes_with own j round x later)) (sym same) ∙ corrects_closes own k round x later can
    (can_adjust_is (mean_by own k) x later clock (ClockStands_still (Ring CloseAlarm) refl x past clock h.clock) e) in
    rw (in_time_is CloseAlarm x past st h.station timely, round_is x past m (goes_where x past (past_due x past st h.station due)) h.master) is
