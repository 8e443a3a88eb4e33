-- The clock is set, and the date is noted.
use Rattle.std.proofs.Common.{◌≡◌, to_z, of_z, w64, to_z-of_z, SFits, rules}
use Rattle.tsp_base.specs.Words.{time_in}
use Rattle.tsp_date.proofs.DateLemmas.{Performs_dated}
use Rattle.tsp_master.proofs.RoomLemmas.{once}
use Rattle.tsp_date.proofs.set.correct.Goals as goal

pub returns-clause-row : goal.returns-clause-row
returns-clause-row g c s t =
    let m = c.args.m.now in
    let n = c.note.ensures in
    let range = c.get.ensures.range in
    let fits : SFits w64 c.time_of.result = search rules in
    let back : to_z w64 (of_z w64 c.time_of.result) ≡ c.time_of.result = to_z-of_z fits in
    Performs_dated s (time_in m.body) c.args.dates.now _ c.args.from m t c.requires.kind n.last n.peers n.asked
    (rw (c.get.ensures.value, back, c.time_of.ensures) at c.correct_to.ensures.row)

pub returns-clause-room : goal.returns-clause-room
returns-clause-room g c = once 0 0 c.correct_to.ensures.room
