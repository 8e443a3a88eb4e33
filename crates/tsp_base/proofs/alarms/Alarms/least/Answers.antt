use Rattle.std.proofs.Common.{rules, ◌≡◌}
use Rattle.tsp_base.{proofs.AlarmLemmas.all_seen, specs.Words.deadlines_in, specs.Words.least_deadline}
use Rattle.tsp_base.proofs.alarms.Alarms.least.Goals as goal

pub returns : goal.returns
returns c =
    let seen : c.loop-at.least ≡ least_deadline (deadlines_in c.self.inside.deadlines) =
    all_seen c.self.inside.deadlines c.loop-at.at-index c.loop-at.least c.self.invariant c.loop-at-test.false c.loop-at.invariant in
    search rules
