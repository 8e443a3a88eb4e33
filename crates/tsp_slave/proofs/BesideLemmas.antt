-- Rows that neither boot, take, follow nor correct leave alone what stands beside a station: what is remembered of corrections, the clock, and what was taken.
use Rattle.std.proofs.Common.{sym, true≢false, ◌≡◌, ℕ, true, List, [], ◌∷◌, Option}
use Rattle.tsp_rules.specs.Values.{Act, Boot, Took, Become, Correct, Placed, Port, Follow}
use Rattle.tsp_base.specs.Words.{Performs, Keeps, Received, Row, puts}
use Rattle.tsp_rules.proofs.Emits.{Sort, Asking, Correcting, Numbering, Passing, Posting, Leading, Changing, Backing, Counting, Rounding, Alarming, Tabling}
use Rattle.tsp_rules.proofs.Emits.{Rivalling, Acking, Giving, Sampling, Closing, Tracing, is_in, sort_of, Emits, Keeps_by}
use Rattle.tsp_acks.specs.{Stands.StationStands, declared.station.Station.Station}
use Rattle.tsp_clock.specs.{ClockStands.ClockStands, Clocks.ClockValue}
use Rattle.tsp_slave.specs.{Lasts.LastValue, Lasts.Remembers, SlaveStands.AlsoStands, SlaveStands.SlaveStands, SlaveStands.Took as WasTaken}
use Rattle.tsp_rules.proofs.Parts.{Performs_part}

-- all sorts of acts but Boot, Took, to follow, and Correct
abbrev pub beside_sorts : List Sort
beside_sorts = Asking ∷ Correcting ∷ Numbering ∷ Passing ∷ Posting ∷ Leading ∷ Changing ∷ Backing ∷ Counting ∷ Rounding ∷ Alarming ∷ Tabling ∷ Rivalling ∷
    Acking ∷ Giving ∷ Sampling ∷ Closing ∷ Tracing ∷ []

Remembers_act : (a : Act) → is_in (sort_of a) beside_sorts ≡ true → Keeps Remembers (puts a)
unfolding puts
Remembers_act Boot e x past last h = absurd (true≢false (sym e))
Remembers_act (Took from t) e x past last h = absurd (true≢false (sym e))
Remembers_act (Become (Follow p)) e x past last h = absurd (true≢false (sym e))
Remembers_act (Correct amount stepped shown) e x past last h = absurd (true≢false (sym e))
Remembers_act _ e x past last h = record { tick_is = h.tick_is; taken_is = h.taken_is; name_is = h.name_is }

ClockStands_act : (a : Act) → is_in (sort_of a) beside_sorts ≡ true → Keeps ClockStands (puts a)
unfolding puts
ClockStands_act Boot e x past clock h = absurd (true≢false (sym e))
ClockStands_act (Correct amount stepped shown) e x past clock h = absurd (true≢false (sym e))
ClockStands_act _ e x past clock h = record { offset_is = h.offset_is; rest_is = h.rest_is; at_is = h.at_is; ticket_is = h.ticket_is }

WasTaken_act : (a : Act) → is_in (sort_of a) beside_sorts ≡ true → Keeps WasTaken (puts a)
unfolding puts
WasTaken_act (Took from t) e x past took h = absurd (true≢false (sym e))
WasTaken_act _ e x past took h = h

pub Remembers_by : (row : Row) → Emits beside_sorts row → Keeps Remembers row
Remembers_by row e = Keeps_by beside_sorts Remembers row Remembers_act e

pub ClockStands_by : (row : Row) → Emits beside_sorts row → Keeps ClockStands row
ClockStands_by row e = Keeps_by beside_sorts ClockStands row ClockStands_act e

pub AlsoStands_by : (row : Row) → Emits beside_sorts row → Keeps AlsoStands row
AlsoStands_by row e x past state h = record {
  last = Remembers_by row e x past state.last h.last;
  clock = ClockStands_by row e x past state.clock h.clock;
  took = Keeps_by beside_sorts WasTaken row WasTaken_act e x past state.took h.took;
}

-- a call of the station that leaves alone what stands beside it
pub Performs_station : {row : Row} {x : ℕ} {port : Port} {before after : Station} {last : LastValue} {clock : ClockValue} {took : Option Received}
    {old new : List Placed} → Keeps AlsoStands row → Performs StationStands StationStands row x port before after old new →
    Performs SlaveStands SlaveStands row x port (record { station = before; last = last; clock = clock; took = took }) (record {
      station = after;
      last = last;
      clock = clock;
      took = took;
    }) old new
Performs_station {row = row} {x = x} {last = last} {clock = clock} {took = took} k d = Performs_part d (λ past h. h.station)
    (λ past h s. let also = k x past (record { last = last; clock = clock; took = took }) (record { last = h.last; clock = h.clock; took = h.took }) in
    record { station = s; last = also.last; clock = also.clock; took = also.took })
