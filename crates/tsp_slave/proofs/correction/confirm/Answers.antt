-- The alarm, and then the answer.
use Rattle.tsp_base.proofs.PerformsLemmas.{Performs_then}
use Rattle.tsp_rules.specs.SlaveRows.{confirms}
use Rattle.tsp_slave.proofs.RoomLemmas.{both}
use Rattle.tsp_slave.proofs.correction.confirm.Goals as goal

pub returns-clause-row : goal.returns-clause-row
unfolding confirms
returns-clause-row g c = Performs_then c.arm_elect.ensures.row (c.post.ensures.row c.args.at.tick)

pub returns-clause-room : goal.returns-clause-room
returns-clause-room g c = both 1 1 c.arm_elect.ensures.room c.post.ensures.room
