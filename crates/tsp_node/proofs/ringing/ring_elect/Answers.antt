-- A node that stands rings and becomes a candidate, and any other does as a slave does.
use Rattle.std.proofs.Common.{◌∙◌, sym, ◌≡◌, ℕ, ◌&&◌, true, List, refl}
use Rattle.std.proofs.lemmas.Bool.{and_parts}
use Rattle.tsp_slave.specs.SlaveAlarms.{slave_rings, is_to_be_candidate}
use Rattle.tsp_rules.specs.{CommonRows.arms_elect, CommonRows.searches, CommonRows.candidature_row, Guards.is_in_time, Guards.may_stand_at}
use Rattle.tsp_rules.specs.{Values.Ring, Values.Late, Values.Placed, Values.Elect, Values.Port, SlaveRows.loosens, SlaveRows.elect_rings}
use Rattle.tsp_base.specs.Words.{Past, Performs, puts, ◌followed_by◌}
use Rattle.tsp_base.proofs.PerformsLemmas.{Performs_then, Performs_then_part, Performs_from, Performs_to}
use Rattle.tsp_acks.specs.{Stands.StationStands, Stands.StandsActing, declared.station.Station.Station}
use Rattle.tsp_node.proofs.ringing.ring_elect.Goals as goal

-- how the alarms' calls meet their rows

-- whether a node stands, as its station has it
to_be_candidate-is : (x : ℕ) (past : Past) (station : Station) → StationStands past station →
    (is_in_time Elect x past && may_stand_at x past) ≡ is_to_be_candidate x station
to_be_candidate-is x past station s = rw (s.alarms, s.may, s.hold, s.own) refl

-- a station whose Elect has rung in this step, of a node that may stand
record Ready (x : ℕ) (past : Past) (station : Station) : Type 0 where
  acting : StandsActing past station
  may : may_stand_at x past ≡ true

-- a node that stands
Performs_stands : {x : ℕ} {port : Port} {before mid after : Station} {old middle new : List Placed} →
    ((past : Past) → StationStands past before → (is_in_time Elect x past && may_stand_at x past) ≡ true) →
    Performs StationStands StationStands (puts (Ring Elect)) x port before mid old middle →
    Performs StandsActing StandsActing candidature_row x port mid after middle new →
    Performs StationStands StationStands elect_rings x port before after old new
unfolding elect_rings puts
Performs_stands {x = x} {port = port} {before = before} {mid = mid} {old = old} {middle = middle} t ring stand =
    Performs_then_part (is_in_time Elect) (puts (Late Elect) followed_by arms_elect)
    (λ past s. (and_parts (is_in_time Elect x past) (may_stand_at x past) (t past s)).0)
    (Performs_then rung (Performs_then_part may_stand_at (loosens followed_by searches) (λ past r. r.may) (Performs_from {p = StandsActing} (λ past r. r.acting)
    (Performs_to {q = StandsActing} (λ past h. h.stands) stand)))) where
      rung : Performs StationStands (Ready x) (puts (Ring Elect)) x port before mid old middle
      rung = record {
        acts = ring.acts;
        stands = λ past s. record {
          acting = record { stands = ring.stands past s; acted = refl };
          may = (and_parts (is_in_time Elect x past) (may_stand_at x past) (t past s)).1;
        };
      }

pub returns-then-becomes_candidate-clause-row : goal.returns-then-becomes_candidate-clause-row
returns-then-becomes_candidate-clause-row g c =
    Performs_stands (λ past s. to_be_candidate-is c.args.tick past c.args.station.now s ∙ (sym c.becomes_candidate.ensures ∙ c.if-becomes_candidate.true))
    (c.ring.ensures.row c.args.tick) c.stand.ensures.row

pub returns-else-becomes_candidate-clause-row : goal.returns-else-becomes_candidate-clause-row
unfolding slave_rings
returns-else-becomes_candidate-clause-row g c = c.slave_ring.ensures.row
