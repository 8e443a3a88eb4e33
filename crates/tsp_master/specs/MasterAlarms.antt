-- What a master does at its alarms.
use Rattle.std.specs.Prelude.{◌≡◌, Bool, ℕ, false}
use Rattle.tsp_rules.specs.Values.{Alarm, Round, Probe, CloseAlarm}
use Rattle.tsp_base.specs.Words.{Deadlines, Row, nothing}
use Rattle.tsp_rules.specs.{Guards.is_over, RoundRows.close_rings, RoundRows.probe_rings, RoundRows.round_rings}

-- the alarms of its rounds; a close moves the clock where the port leads it
unfoldable pub master_rings : Bool → Alarm → Row
master_rings own Probe = probe_rings
master_rings own CloseAlarm = close_rings own
master_rings own Round = round_rings false
master_rings own _ = nothing

-- a Close is handled after a Probe that is due
abbrev pub IsInTurn : Alarm → Deadlines → ℕ → Type 0
IsInTurn alarm alarms x = alarm ≡ CloseAlarm → is_over alarms.probe x ≡ false
