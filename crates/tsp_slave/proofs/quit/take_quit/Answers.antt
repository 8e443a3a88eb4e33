-- The QUIT, its answer, and then whom the port follows, by cases of the role.
use Rattle.std.proofs.Common.{◌≡◌, refl, sym, ◌∙◌}
use Rattle.tsp_base.specs.Words.{puts}
use Rattle.tsp_base.proofs.PerformsLemmas.{Performs_nothing, Performs_reading, Performs_then}
use Rattle.tsp_rules.specs.{CommonRows.follows_unless, CommonRows.quits, Guards.role_at, Values.Quit, Values.Ack}
use Rattle.tsp_rules.proofs.{Emits.Emits_puts, RowsOther.follows_unless_other}
use Rattle.tsp_slave.proofs.{BesideLemmas.AlsoStands_by, BesideLemmas.Performs_station, SlaveLemmas.AlsoStands_posts}
use Rattle.tsp_slave.proofs.RoomLemmas.{at_most, both, one_then}
use Rattle.tsp_slave.proofs.quit.take_quit.Goals as goal

pub returns-in-Follow-clause-row : goal.returns-in-Follow-clause-row
unfolding quits follows_unless
returns-in-Follow-clause-row g c took e =
    let m = c.args.m.now in
    let post = rw c.number.ensures at c.post.ensures.row c.args.at.tick in
    Performs_then (Performs_station (AlsoStands_by (puts (Quit c.args.from)) (Emits_puts (Quit c.args.from) refl)) c.quit.ensures.row)
    (Performs_then (Performs_station (AlsoStands_posts c.args.from Ack m.number refl) post)
    (Performs_reading role_at (follows_unless c.args.from) _ (λ past h. sym h.station.role ∙ c.in-Follow.is) Performs_nothing))

pub returns-in_default-clause-row : goal.returns-in_default-clause-row
unfolding quits
returns-in_default-clause-row g c took e =
    let m = c.args.m.now in
    let post = rw c.number.ensures at c.post.ensures.row c.args.at.tick in
    Performs_then (Performs_station (AlsoStands_by (puts (Quit c.args.from)) (Emits_puts (Quit c.args.from) refl)) c.quit.ensures.row)
    (Performs_then (Performs_station (AlsoStands_posts c.args.from Ack m.number refl) post)
    (Performs_reading role_at (follows_unless c.args.from) _ (λ past h. sym h.station.role)
    (rw (follows_unless_other c.args.from _ c.in_default.not-Follow) (c.follow.ensures.row took (e ∙ sym c.name.ensures)))))

pub returns-in-Follow-clause-room : goal.returns-in-Follow-clause-room
returns-in-Follow-clause-room g c = at_most 2 3 (both 1 1 c.quit.ensures.room c.post.ensures.room)

pub returns-in_default-clause-room : goal.returns-in_default-clause-room
returns-in_default-clause-room g c = one_then 0 4 c.quit.ensures.room (one_then 0 3 c.post.ensures.room (at_most 3 0 c.follow.ensures.room))
