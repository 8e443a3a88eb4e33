-- Calls of a station and of a clock, beside a master.
use Rattle.std.proofs.Common.{◌≡◌, ℕ, Bool, true, List, [], ◌∷◌, ◌++◌, refl, sym, ◌∙◌, ap}
use Rattle.std.proofs.lemmas.Bool.{false≢true}
use Rattle.tsp_rules.specs.Values.{Act, Boot, Correct, Placed, Alarm, Port}
use Rattle.tsp_base.specs.Words.{deadline, Past, Performs, Keeps, acting, Row, grown, puts}
use Rattle.tsp_base.proofs.SendLemmas.{seen_act}
use Rattle.tsp_rules.proofs.Emits.{is_in, sort_of, Emits, Emits_more, Keeps_by}
use Rattle.tsp_rules.{proofs.EmitsStill.still_sorts, specs.Guards.is_in_time, specs.Guards.is_met, proofs.Parts.Performs_part}
use Rattle.tsp_acks.specs.{Stands.StationStands, Stands.StandsActing, declared.station.Station.Station}
use Rattle.tsp_acks.proofs.{ActingLemmas.Performs_acting, StandsLemmas.Stands_idle, StandsLemmas.is_idle}
use Rattle.tsp_clock.specs.{ClockStands.ClockStands, Clocks.ClockValue}
use Rattle.tsp_master.specs.MasterStands.{LeadStands, LeadState, MasterStands, RingStands}
use Rattle.tsp_master.{proofs.TableLemmas.quiet_sorts, proofs.TableLemmas.MasterStands_quiet, specs.declared.master.Master.Master}

-- an act that the station doesn't keep
pub Performs_idle : (a : Act) → is_idle a ≡ true → {x : ℕ} {port : Port} {station : Station} {old new : List Placed} → new ≡ old ++
    record { port = port; act = a } ∷ [] →
    Performs StandsActing StandsActing (puts a) x port station station old new
unfolding puts
Performs_idle a i {x = x} {station = station} put = Performs_acting (record { acts = λ past s. put; stands = λ past s. Stands_idle a i x past station s })

-- whether an alarm is in time, as the station has it
pub in_time_is : (alarm : Alarm) (x : ℕ) (past : Past) (st : Station) {b : Bool} → StationStands past st → is_met (deadline st.alarms alarm) x ≡ b →
    is_in_time alarm x past ≡ b
in_time_is alarm x past st h e = ap (λ d. is_met (deadline d alarm) x) (sym h.alarms) ∙ e

pub ClockStands_still : (a : Act) → is_in (sort_of a) still_sorts ≡ true → Keeps ClockStands (puts a)
unfolding puts
ClockStands_still Boot e x past clock h = absurd (false≢true e)
ClockStands_still (Correct amount stepped shown) e x past clock h = absurd (false≢true e)
ClockStands_still _ e x past clock h = record { offset_is = h.offset_is; rest_is = h.rest_is; at_is = h.at_is; ticket_is = h.ticket_is }

-- the station of such a step
acting_station : {past : Past} {lead : LeadState} → LeadStands past lead → StandsActing past lead.station
acting_station h = record { stands = h.station; acted = h.acted }

-- a call of the station, and what it makes of the master, where more stands before or after
pub Performs_lead_by : {P Q : Past → LeadState → Type 0} {row : Row} {x : ℕ} {port : Port} {before after : Station} (old new : Master) (clock : ClockValue)
    {earlier later : List Placed} → Emits still_sorts row →
    ((past : Past) → P past (record { master = old; station = before; clock = clock }) →
    LeadStands past (record { master = old; station = before; clock = clock })) →
    ((past : Past) → P past (record { master = old; station = before; clock = clock }) → MasterStands (grown x past (row x past)) new) →
    ((past : Past) → P past (record { master = old; station = before; clock = clock }) →
    LeadStands (grown x past (row x past)) (record { master = new; station = after; clock = clock }) →
    Q (grown x past (row x past)) (record { master = new; station = after; clock = clock })) →
    Performs StandsActing StandsActing row x port before after earlier later → Performs P Q row x port (record {
      master = old;
      station = before;
      clock = clock;
    }) (record { master = new; station = after; clock = clock }) earlier later
Performs_lead_by {row = row} {x = x} old new clock e from k to d = Performs_part d (λ past h. acting_station (from past h))
    (λ past h stands. to past h (record {
      master = k past h;
      station = stands.stands;
      acted = stands.acted;
      clock = Keeps_by still_sorts ClockStands row
          ClockStands_still e x past clock (from past h).clock;
    }))

-- the same, where no more stands
pub Performs_lead : {row : Row} {x : ℕ} {port : Port} {before after : Station} (old new : Master) (clock : ClockValue) {earlier later : List Placed} →
    Emits still_sorts row →
    ((past : Past) → LeadStands past (record { master = old; station = before; clock = clock }) → MasterStands (grown x past (row x past)) new) →
    Performs StandsActing StandsActing row x port before after earlier later →
    Performs LeadStands LeadStands row x port (record { master = old; station = before; clock = clock }) (record {
      master = new;
      station = after;
      clock = clock;
    }) earlier later
Performs_lead old new clock e k d = Performs_lead_by {P = LeadStands} {Q = LeadStands} old new clock e (λ past h. h) k (λ past h stands. stands) d

-- a call of the station that means nothing to the master
pub Performs_quiet : {row : Row} {x : ℕ} {port : Port} {before after : Station} (master : Master) (clock : ClockValue) {earlier later : List Placed} →
    Emits quiet_sorts row →
    Performs StandsActing StandsActing row x port before after earlier later →
    Performs LeadStands LeadStands row x port (record { master = master; station = before; clock = clock }) (record {
      master = master;
      station = after;
      clock = clock;
    }) earlier later
Performs_quiet {row = row} {x = x} master clock e d =
    Performs_lead master master clock (Emits_more quiet_sorts refl e) (λ past h. Keeps_by quiet_sorts MasterStands row MasterStands_quiet e x past master
    h.master) d

-- the act with which an alarm begins: from here on the step has acted
pub Performs_rung : {Q : Past → LeadState → Type 0} (a : Act) {x : ℕ} {port : Port} {before after : Station} (old new : Master) (clock : ClockValue)
    {earlier later : List Placed} →
    is_in (sort_of a) still_sorts ≡ true → ((past : Past) → acting (seen_act past.step x a ∷ past.seen) ≡ true) →
    ((past : Past) → RingStands past (record { master = old; station = before; clock = clock }) → MasterStands (grown x past (a ∷ [])) new) →
    ((past : Past) → RingStands past (record { master = old; station = before; clock = clock }) →
    LeadStands (grown x past (a ∷ [])) (record { master = new; station = after; clock = clock }) →
    Q (grown x past (a ∷ [])) (record { master = new; station = after; clock = clock })) →
    Performs StationStands StationStands (puts a) x port before after earlier later →
    Performs RingStands Q (puts a) x port (record { master = old; station = before; clock = clock }) (record {
      master = new;
      station = after;
      clock = clock;
    }) earlier later
unfolding puts
Performs_rung a {x = x} old new clock e acts k to d = Performs_part d (λ past h. h.station)
    (λ past h s. to past h (record { master = k past h; station = s; acted = acts past; clock = ClockStands_still a e x past clock h.clock }))

-- what stands in a step that has acted stands
pub rings_stand : (past : Past) (lead : LeadState) → LeadStands past lead → RingStands past lead
rings_stand past lead h = record { master = h.master; station = h.station; clock = h.clock }
