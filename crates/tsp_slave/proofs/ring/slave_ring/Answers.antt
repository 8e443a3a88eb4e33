-- Each alarm has its row.
use Rattle.std.proofs.Common.{length, refl}
use Rattle.tsp_base.proofs.PerformsLemmas.{Performs_nothing, Performs_then}
use Rattle.tsp_rules.specs.SlaveRows.{quiet_rings, search_rings}
use Rattle.tsp_slave.specs.SlaveAlarms.{slave_rings}
use Rattle.tsp_slave.proofs.{RoomLemmas.beside_peers, RoomLemmas.both, RowCases.slave_rings_other}
use Rattle.tsp_slave.proofs.ring.slave_ring.Goals as goal

pub returns-in-Quiet-clause-row : goal.returns-in-Quiet-clause-row
unfolding slave_rings quiet_rings
returns-in-Quiet-clause-row g c =
    rw c.in-Quiet.is (Performs_then (c.ring.ensures.row c.args.tick) (Performs_then (c.become_role.ensures.row c.args.tick) c.search.ensures.row))

pub returns-in-Search-clause-row : goal.returns-in-Search-clause-row
unfolding slave_rings search_rings
returns-in-Search-clause-row g c = rw c.in-Search.is (Performs_then c.ring_or_late.ensures.row c.arm_elect.ensures.row)

pub returns-in-Elect-clause-row : goal.returns-in-Elect-clause-row
unfolding slave_rings
returns-in-Elect-clause-row g c = rw c.in-Elect.is c.miss_master.ensures.row

pub returns-in_default-clause-row : goal.returns-in_default-clause-row
returns-in_default-clause-row g c = rw (slave_rings_other _ c.in_default.not-Quiet c.in_default.not-Search c.in_default.not-Elect) Performs_nothing

pub returns-in-Search-clause-room : goal.returns-in-Search-clause-room
returns-in-Search-clause-room g c = beside_peers (length c.args.station.now.peers) 2 3 1 refl (both 1 1 c.ring_or_late.ensures.room c.arm_elect.ensures.room)
