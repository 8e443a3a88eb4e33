-- A probe that is counted leaves the exchanges as they are.
use Rattle.std.proofs.Common.{◌+◌, ◌*◌}
use Rattle.tsp_measure.{proofs.Counters.IsCounted_probed, proofs.Counters.IsRounds_probed, specs.Rounds.RoundsValue}
use Rattle.tsp_measure.proofs.rounds.Rounds.count_probe.Goals as goal

pub invariant_of-self : goal.invariant_of-self
invariant_of-self c = IsRounds_probed (record { exchanges = c.self.inside.exchanges; asked = c.self.inside.asked; probes = c.self.inside.probes })
    c.if-more.true c.self.invariant

pub returns-then-more-clause-few : goal.returns-then-more-clause-few
returns-then-more-clause-few c more = c.self.invariant.few

pub returns-then-more-clause-counted : goal.returns-then-more-clause-counted
returns-then-more-clause-counted c more =
    let v : RoundsValue = record { exchanges = c.self.inside.exchanges; asked = c.self.inside.asked; probes = c.self.inside.probes } in
    IsCounted_probed v (1000 * (v.probes + 1)) c.self.invariant.counted
