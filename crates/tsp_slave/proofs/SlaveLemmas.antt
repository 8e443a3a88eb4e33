-- What acts of the station leave as it is: what is remembered, the clock, and what was taken.
use Rattle.std.proofs.Common.{sym, ◌∙◌, ap, ◌≡◌, ℕ, ℤ, Bool, true, false, Option, Some, List, [], ◌∷◌, refl}
use Rattle.std.proofs.lemmas.Bool.{false≢true}
use Rattle.tsp_rules.specs.Values.{Act, Become, Back, Correct, Placed, Kind, Accept, Ack, Refuse, PeerId, Port, Follow}
use Rattle.tsp_rules.proofs.{Emits.Emits_posts, Emits.Emits_puts, Emits.is_in, Emits.sort_of_kind, BuiltRoles.built_reports_conflict}
use Rattle.tsp_rules.specs.{SlaveRows.election_of, SlaveRows.confirms, SlaveRows.reports_conflict, ClockRows.adjusts, ClockRows.sets}
use Rattle.tsp_rules.proofs.{BuiltShared.built_acknowledges, BuiltShared.built_arms_elect, EmitsBuilt.emits_built, Parts.Performs_part}
use Rattle.tsp_rules.specs.{CommonRows.arms_elect, SendRows.acknowledges, Guards.may_back_at}
use Rattle.tsp_base.specs.Words.{Past, Performs, Keeps, Received, said, name_in, Row, grown, puts, ◌followed_by◌, posts, Correcting, correcting_of}
use Rattle.tsp_base.proofs.PerformsLemmas.{Keeps_then, Keeps_either}
use Rattle.tsp_acks.specs.{Stands.StationStands, Stands.StandsActing, declared.station.Station.Station}
use Rattle.tsp_acks.proofs.{ActingLemmas.taken_acts, StandsLemmas.Stands_idle}
use Rattle.tsp_clock.specs.{ClockStands.ClockStands, Clocks.ClockValue}
use Rattle.tsp_slave.specs.declared.change.Change.{Change, TheVariants.By, TheVariants.To}
use Rattle.tsp_slave.specs.{ClockChanges.changes_clock, Lasts.LastValue, SlaveStands.AlsoStands, SlaveStands.SlaveStands}
use Rattle.tsp_slave.proofs.BesideLemmas.{AlsoStands_by, beside_sorts}

abbrev pub is_correct : Act → Bool
is_correct (Correct amount stepped shown) = true
is_correct _ = false

-- acts of the station leave it alone
pub AlsoStands_posts : (p : PeerId) (kind : Kind) (number : ℕ) → is_in (sort_of_kind kind) beside_sorts ≡ true → Keeps AlsoStands (posts p kind number)
AlsoStands_posts p kind number e = AlsoStands_by (posts p kind number) (Emits_posts p kind number e)

pub AlsoStands_arms_elect : Keeps AlsoStands arms_elect
AlsoStands_arms_elect = AlsoStands_by arms_elect (emits_built refl built_arms_elect)

pub AlsoStands_confirms : (p : PeerId) (number : ℕ) → Keeps AlsoStands (confirms p number)
unfolding confirms
AlsoStands_confirms p number = Keeps_then AlsoStands arms_elect (posts p Ack number) AlsoStands_arms_elect (AlsoStands_posts p Ack number refl)

pub AlsoStands_election_of : (p : PeerId) (number : ℕ) → Keeps AlsoStands (election_of p number)
unfolding election_of
AlsoStands_election_of p number =
    Keeps_either AlsoStands (may_back_at p) (puts (Back p) followed_by (arms_elect followed_by posts p Accept number)) (posts p Refuse number)
    (Keeps_then AlsoStands (puts (Back p)) (arms_elect followed_by posts p Accept number) (AlsoStands_by (puts (Back p)) (Emits_puts (Back p) refl))
    (Keeps_then AlsoStands arms_elect (posts p Accept number) AlsoStands_arms_elect (AlsoStands_posts p Accept number refl)))
    (AlsoStands_posts p Refuse number refl)

pub AlsoStands_acknowledges : (p : PeerId) (number : ℕ) → Keeps AlsoStands (acknowledges p number)
AlsoStands_acknowledges p number = AlsoStands_by (acknowledges p number) (emits_built refl (built_acknowledges p number tt))

pub AlsoStands_reports_conflict : (q : PeerId) → Keeps AlsoStands (reports_conflict q)
unfolding reports_conflict
AlsoStands_reports_conflict q = AlsoStands_by (reports_conflict q) (emits_built refl (built_reports_conflict q tt))

-- a call on the station in a step that has acted, since it has taken something
pub Performs_since_taken : {row : Row} {x : ℕ} {port : Port} {before after : Station} (last : LastValue) (clock : ClockValue) (took : Option Received)
    (r : Received) {old new : List Placed} → took ≡ Some r → Keeps AlsoStands row →
    Performs StandsActing StandsActing row x port before after old new →
    Performs SlaveStands SlaveStands row x port (record { station = before; last = last; clock = clock; took = took }) (record {
      station = after;
      last = last;
      clock = clock;
      took = took;
    }) old new
Performs_since_taken {row = row} {x = x} {before = before} last clock took r e k d = Performs_part d
    (λ past h. record { stands = h.station; acted = taken_acts past.seen r (h.took ∙ e) })
    (λ past h s. let also = k x past (record { last = last; clock = clock; took = took }) (record { last = h.last; clock = h.clock; took = h.took }) in
    record { station = s.stands; last = also.last; clock = also.clock; took = also.took })

-- a port that begins to follow keeps the name that was taken
pub follow_becomes : (p : PeerId) {x : ℕ} {port : Port} {before after : Station} (first last : LastValue) (clock : ClockValue) (took : Option Received)
    {old new : List Placed} →
    last ≡ record first { name = name_in took } → Performs StationStands StationStands (puts (Become (Follow p))) x port before after old new →
    Performs SlaveStands SlaveStands (puts (Become (Follow p))) x port (record { station = before; last = first; clock = clock; took = took })
    (record { station = after; last = last; clock = clock; took = took }) old new
unfolding puts
follow_becomes p first last clock took e d = Performs_part d (λ past h. h.station) (λ past h s. record {
  station = s;
  last = record {
    tick_is = ap (λ l. l.tick) e ∙ h.last.tick_is;
    taken_is = ap (λ l. l.taken) e ∙ h.last.taken_is;
    name_is = ap (λ l. l.name) e ∙ ap name_in (sym h.took);
  };
  clock = record { offset_is = h.clock.offset_is; rest_is = h.clock.rest_is; at_is = h.clock.at_is; ticket_is = h.clock.ticket_is };
  took = h.took;
})

-- a correction by what a step took: the clock moves, and whose correction it was is remembered
pub Stands_took : (act : Act) (x : ℕ) (past : Past) (station : Station) (first last : LastValue) (clock moved : ClockValue) (took : Option Received)
    (by : Correcting) →
    is_correct act ≡ true → correcting_of (said took) ≡ Some by → last ≡ record first { tick = Some x; taken = Some by } →
    SlaveStands past (record { station = station; last = first; clock = clock; took = took }) → ClockStands (grown x past (act ∷ [])) moved →
    SlaveStands (grown x past (act ∷ [])) (record { station = station; last = last; clock = moved; took = took })
unfolding puts
Stands_took (Correct amount stepped shown) x past station first last clock moved took by i s e h m = record {
  station = Stands_idle (Correct amount stepped shown) refl x past station h.station;
  last = record {
    tick_is = ap (λ l. l.tick) e;
    taken_is = ap (λ l. l.taken) e ∙ sym s ∙ ap (λ t. correcting_of (said t)) (sym h.took);
    name_is = ap (λ l. l.name) e ∙ h.last.name_is;
  };
  clock = m;
  took = h.took;
}
Stands_took _ x past station first last clock moved took by i s e h m = absurd (false≢true i)

Performs_adjusts : (amount : ℤ) {x : ℕ} {port : Port} (station : Station) (first last : LastValue) {clock moved : ClockValue} (took : Option Received)
    (by : Correcting) {old new : List Placed} →
    correcting_of (said took) ≡ Some by → last ≡ record first { tick = Some x; taken = Some by } →
    Performs ClockStands ClockStands (adjusts amount) x port clock moved old new →
    Performs SlaveStands SlaveStands (adjusts amount) x port (record { station = station; last = first; clock = clock; took = took })
    (record { station = station; last = last; clock = moved; took = took }) old new
unfolding adjusts
Performs_adjusts amount {x = x} station first last {clock = clock} {moved = moved} took by s e d = Performs_part d (λ past h. h.clock)
    (λ past h z. Stands_took _ x past station first last clock moved took by refl s e h z)

Performs_sets : (value : ℤ) {x : ℕ} {port : Port} (station : Station) (first last : LastValue) {clock moved : ClockValue} (took : Option Received)
    (by : Correcting) {old new : List Placed} →
    correcting_of (said took) ≡ Some by → last ≡ record first { tick = Some x; taken = Some by } →
    Performs ClockStands ClockStands (sets value) x port clock moved old new →
    Performs SlaveStands SlaveStands (sets value) x port (record { station = station; last = first; clock = clock; took = took }) (record {
      station = station;
      last = last;
      clock = moved;
      took = took;
    }) old new
unfolding sets
Performs_sets value {x = x} station first last {clock = clock} {moved = moved} took by s e d = Performs_part d (λ past h. h.clock)
    (λ past h z. Stands_took _ x past station first last clock moved took by refl s e h z)

-- a change of either kind
pub Performs_changes : (change : Change) {x : ℕ} {port : Port} (station : Station) (first last : LastValue) {clock moved : ClockValue} (took : Option Received)
    (by : Correcting) {old new : List Placed} →
    correcting_of (said took) ≡ Some by → last ≡ record first { tick = Some x; taken = Some by } →
    Performs ClockStands ClockStands (changes_clock change) x port clock moved old new →
    Performs SlaveStands SlaveStands (changes_clock change) x port (record { station = station; last = first; clock = clock; took = took })
    (record { station = station; last = last; clock = moved; took = took }) old new
unfolding changes_clock
Performs_changes (By amount) station first last took by s e d = Performs_adjusts amount station first last took by s e d
Performs_changes (To value) station first last took by s e d = Performs_sets value station first last took by s e d
