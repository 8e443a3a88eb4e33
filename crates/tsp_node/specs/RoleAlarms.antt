-- Whose the alarms of a port are.
use Rattle.std.specs.Prelude.{not, Bool, true, false}
use Rattle.tsp_rules.specs.Values.{Alarm, Window, Round, Probe, CloseAlarm, ResolveAlarm}

-- whether an alarm belongs to a port that is Starting, Loose or follows; the others belong to a candidate or a master
abbrev pub is_of_slave : Alarm → Bool
is_of_slave Window = false
is_of_slave Probe = false
is_of_slave CloseAlarm = false
is_of_slave ResolveAlarm = false
is_of_slave Round = false
is_of_slave _ = true

-- whether an alarm that is due is its master's: a Probe, a Close, or a Round that doesn't wait
abbrev pub is_of_master : Bool → Alarm → Bool
is_of_master wait Probe = true
is_of_master wait CloseAlarm = true
is_of_master wait Round = not wait
is_of_master wait _ = false
