-- The clock is moved where its port leads it.
use Rattle.std.proofs.Common.{◌≡◌, w64, to_z, of_z, to_z-of_z}
use Rattle.tsp_base.proofs.PerformsLemmas.{Performs_nothing}
use Rattle.tsp_rules.specs.RoundRows.{moves}
use Rattle.tsp_master.proofs.CloseLemmas.{Performs_moves}
use Rattle.tsp_master.proofs.closing.move_own.Goals as goal

pub returns-then-own-clause-row : goal.returns-then-own-clause-row
unfolding moves
returns-then-own-clause-row g c master station =
    let back : to_z w64 (of_z w64 c.args.mean) ≡ c.args.mean = to_z-of_z c.ranges.mean in
    rw c.if-own.true (Performs_moves c.args.mean master station (rw back at c.correct_by.ensures.row))

pub returns-else-own-clause-row : goal.returns-else-own-clause-row
unfolding moves
returns-else-own-clause-row g c master station = rw c.if-own.false Performs_nothing
