-- Each alarm has its row.
use Rattle.std.proofs.Common.{◌≡◌}
use Rattle.tsp_rules.specs.Answers.{alarm_rings}
use Rattle.tsp_slave.specs.SlaveAlarms.{slave_rings}
use Rattle.tsp_node.proofs.AlarmCases.{slave_rings_is}
use Rattle.tsp_node.proofs.ringing.ring_slave.Goals as goal

pub returns-in-Elect-clause-row : goal.returns-in-Elect-clause-row
unfolding alarm_rings
returns-in-Elect-clause-row g c own wait = rw c.in-Elect.is c.ring_elect.ensures.row

pub returns-in_default-clause-row : goal.returns-in_default-clause-row
returns-in_default-clause-row g c own wait =
    let same : slave_rings c.args.alarm ≡ alarm_rings own wait c.args.alarm = slave_rings_is own wait c.args.alarm c.requires.alarm c.in_default.not-Elect in
    rw same at c.slave_ring.ensures.row
