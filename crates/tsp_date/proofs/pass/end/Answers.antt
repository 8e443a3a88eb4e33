-- Only a follower has passed a date on.
use Rattle.std.proofs.Common.{sym, ◌∙◌}
use Rattle.tsp_base.proofs.PerformsLemmas.{Performs_nothing, Performs_reading}
use Rattle.tsp_rules.specs.{DateRows.date_acked, DateRows.date_acked_in, Guards.role_at, Values.Follow}
use Rattle.tsp_date.proofs.DateLemmas.{Performs_ended, date_acked_in_other}
use Rattle.tsp_master.proofs.RoomLemmas.{at_most_once}
use Rattle.tsp_date.proofs.pass.end.Goals as goal

pub returns-in-Follow-clause-row : goal.returns-in-Follow-clause-row
unfolding date_acked date_acked_in
returns-in-Follow-clause-row g c x s =
    let d = c.dated.ensures in
    Performs_reading role_at (date_acked_in c.args.m.now c.args.from) (Follow c.in-Follow.field-0) (λ past h. sym h.station.role ∙ c.in-Follow.is)
    (rw (← c.number.ensures) (Performs_ended s c.args.from c.number.result c.dated.result _ (d.test x) (λ e. d.row e x) d.same d.sends))

pub returns-in_default-clause-row : goal.returns-in_default-clause-row
unfolding date_acked
returns-in_default-clause-row g c x s =
    Performs_reading role_at (date_acked_in c.args.m.now c.args.from) c.args.station.now.role (λ past h. sym h.station.role)
    (rw (date_acked_in_other c.args.m.now c.args.from c.args.station.now.role c.in_default.not-Follow) Performs_nothing)

pub returns-in-Follow-clause-room : goal.returns-in-Follow-clause-room
returns-in-Follow-clause-room g c = at_most_once c.dated.result c.dated.ensures.room
