-- Alarms that aren't a master's.
use Rattle.std.proofs.Common.{◌≡◌, ◌≢◌, ℕ, Bool, false, refl}
use Rattle.tsp_rules.specs.{Values.Alarm, Values.Round, Values.Probe, Values.CloseAlarm, RoundRows.corrects}
use Rattle.tsp_base.specs.Words.{Past, nothing}
use Rattle.tsp_master.specs.MasterAlarms.{master_rings}

pub master_rings_other : (own : Bool) (a : Alarm) → a ≢ Probe → a ≢ CloseAlarm → a ≢ Round → master_rings own a ≡ nothing
unfolding master_rings
master_rings_other own Probe p q r = absurd (p refl)
master_rings_other own CloseAlarm p q r = absurd (q refl)
master_rings_other own Round p q r = absurd (r refl)
master_rings_other own _ p q r = refl

pub nothing_corrects : (x : ℕ) (past : Past) → false ≡ corrects (nothing x past)
unfolding nothing
nothing_corrects x past = refl
