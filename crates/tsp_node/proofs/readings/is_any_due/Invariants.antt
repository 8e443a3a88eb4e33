-- None of the alarms so far is due.
use Rattle.std.proofs.Common.{◌≡◌, ◌<◌, ℕ, false, slice_index_or}
use Rattle.tsp_base.specs.Words.{deadline}
use Rattle.tsp_rules.specs.{Guards.is_over, Values.Quiet, Values.ALL}
use Rattle.tsp_node.proofs.readings.is_any_due.Given as goal

abbrev pub invariant-loop-alarm : goal.invariant-loop-alarm
invariant-loop-alarm l = (i : ℕ) → i < l.alarm-index → is_over (deadline l.station.alarms (slice_index_or ALL i Quiet)) l.tick ≡ false
