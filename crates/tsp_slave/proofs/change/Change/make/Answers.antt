-- The clock moves or is set.
use Rattle.std.proofs.Common.{◌≡◌, to_z, of_z, w64, to_z-of_z, SFits, rules}
use Rattle.tsp_slave.specs.ClockChanges.{changes_clock}
use Rattle.tsp_slave.proofs.change.Change.make.Goals as goal

pub returns-in-By-clause-row : goal.returns-in-By-clause-row
unfolding changes_clock
returns-in-By-clause-row g c =
    let amount = c.in-By.amount in
    let fits : SFits w64 amount = search rules in
    let back : to_z w64 (of_z w64 amount) ≡ amount = to_z-of_z fits in
    rw c.in-By.is (let r = c.correct_by.ensures.row in rw back at r)

pub returns-in-To-clause-row : goal.returns-in-To-clause-row
unfolding changes_clock
returns-in-To-clause-row g c =
    let value = c.in-To.value in
    let fits : SFits w64 value = search rules in
    let back : to_z w64 (of_z w64 value) ≡ value = to_z-of_z fits in
    rw c.in-To.is (let r = c.correct_to.ensures.row in rw back at r)
