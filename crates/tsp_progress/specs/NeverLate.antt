-- No alarm is handled late.
use Rattle.std.specs.Prelude.{◌≢◌, List}
use Rattle.tsp_rules.specs.Values.{Alarm, Late}
use Rattle.tsp_base.specs.Words.{Acts, Line}
use Rattle.tsp_promises.specs.Everywhere.{Everywhere}

-- no line says that an alarm is late
abbrev pub NeverLate : List Line → Type 0
NeverLate = Everywhere (λ l before. (a : Alarm) → l.did.deed ≢ Acts (Late a))
