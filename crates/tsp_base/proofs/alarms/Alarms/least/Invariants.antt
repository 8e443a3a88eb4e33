use Rattle.std.specs.Prelude.{◌≡◌, None, drop}
use Rattle.tsp_base.proofs.AlarmLemmas.{earliest}
use Rattle.tsp_base.proofs.alarms.Alarms.least.Given as goal

abbrev pub invariant-loop-at : goal.invariant-loop-at
invariant-loop-at l = earliest (drop l.at-index l.at-items) l.least ≡ earliest l.at-items None
