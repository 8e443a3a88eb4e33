-- Nothing was asked.
use Rattle.std.proofs.Common.{refl}
use Rattle.tsp_measure.proofs.Counters.{IsRounds_nothing}
use Rattle.tsp_measure.proofs.rounds.Rounds.new.Goals as goal

pub invariant_of-result : goal.invariant_of-result
invariant_of-result c = IsRounds_nothing (record { exchanges = c.in_ok-exchanges.exchanges; asked = 0; probes = 0 }) refl refl c.in_ok-exchanges.ensures.nothing
