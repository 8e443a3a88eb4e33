-- What a port that is Starting, Loose or follows does at its alarms.
use Rattle.std.specs.Prelude.{ℕ, ◌&&◌, Bool}
use Rattle.tsp_rules.specs.Values.{Alarm, Quiet, Elect, Search}
use Rattle.tsp_base.specs.Words.{deadline, may_stand, Row, nothing}
use Rattle.tsp_rules.specs.{Guards.is_met, SlaveRows.quiet_rings, SlaveRows.search_rings, SlaveRows.elect_rings}
use Rattle.tsp_acks.specs.declared.station.Station.{Station}

-- the alarms of such a port
unfoldable pub slave_rings : Alarm → Row
slave_rings Quiet = quiet_rings
slave_rings Search = search_rings
slave_rings Elect = elect_rings
slave_rings _ = nothing

-- whether a port whose Elect is due becomes a candidate: the alarm is in time, the node may be master, and the hold lets it stand for election
abbrev pub is_to_be_candidate : ℕ → Station → Bool
is_to_be_candidate x s = is_met (deadline s.alarms Elect) x && (s.me.may && may_stand s.hold x s.me.own)
