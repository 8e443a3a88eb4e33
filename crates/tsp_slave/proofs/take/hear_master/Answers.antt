-- The row is by cases of the role.
use Rattle.std.proofs.Common.{◌≡◌, ◌==◌, true, false, eq-eqb, ap, sym, ◌∙◌}
use Rattle.std.proofs.lemmas.Bool.{ne_eqb}
use Rattle.tsp_base.specs.Words.{name_in}
use Rattle.tsp_base.proofs.PerformsLemmas.{Performs_then, Performs_reading, Performs_nothing}
use Rattle.tsp_rules.specs.{Guards.role_at, SlaveRows.masterup_in, Values.Loose, Values.Follow}
use Rattle.tsp_acks.proofs.FollowLemmas.{followed_Contains}
use Rattle.tsp_rules.proofs.RowsOther.{masterup_in_other}
use Rattle.tsp_slave.proofs.{BesideLemmas.Performs_station, RoomLemmas.at_most, RoomLemmas.both, RoomLemmas.more_room}
use Rattle.tsp_slave.proofs.SlaveLemmas.{AlsoStands_arms_elect, AlsoStands_reports_conflict, Performs_since_taken}
use Rattle.tsp_slave.proofs.take.hear_master.Goals as goal

pub report_conflict-requires-clause-peer : goal.report_conflict-requires-clause-peer
report_conflict-requires-clause-peer g c = followed_Contains c.args.station.now c.in-Follow.q c.in-Follow.is

pub returns-in-Loose-clause-row : goal.returns-in-Loose-clause-row
unfolding masterup_in
returns-in-Loose-clause-row g c took e =
    Performs_reading role_at (masterup_in c.args.from) Loose (λ past h. let r = h.station.role in let i = c.in-Loose.is in
    cc) (c.follow.ensures.row took (ap name_in e ∙ sym c.name.ensures))

pub returns-then-q-from-clause-row : goal.returns-then-q-from-clause-row
unfolding masterup_in
returns-then-q-from-clause-row g c took e =
    let same : (c.in-Follow.q.0 == c.args.from.0) ≡ true = eq-eqb _ _ c.if-q-from.true in
    Performs_reading role_at (masterup_in c.args.from) (Follow c.in-Follow.q) (λ past h. let r = h.station.role in let i = c.in-Follow.is in cc)
    (rw same (Performs_then (Performs_station AlsoStands_arms_elect c.arm_elect.ensures.row) (c.tell_ticket.ensures.row c.args.at.tick _ took)))

pub returns-else-q-from-clause-row : goal.returns-else-q-from-clause-row
unfolding masterup_in
returns-else-q-from-clause-row g c took e =
    let other : (c.in-Follow.q.0 == c.args.from.0) ≡ false = ne_eqb _ _ c.if-q-from.false in
    Performs_reading role_at (masterup_in c.args.from) (Follow c.in-Follow.q) (λ past h. let r = h.station.role in let i = c.in-Follow.is in cc)
    (rw other (Performs_since_taken _ _ took _ e (AlsoStands_reports_conflict c.in-Follow.q) c.report_conflict.ensures.row))

pub returns-in_default-clause-row : goal.returns-in_default-clause-row
returns-in_default-clause-row g c took e =
    Performs_reading role_at (masterup_in c.args.from) c.args.station.now.role (λ past h. let r = h.station.role in cc)
    (rw (masterup_in_other c.args.from _ c.in_default.not-Loose c.in_default.not-Follow) Performs_nothing)

pub returns-in-Loose-clause-room : goal.returns-in-Loose-clause-room
returns-in-Loose-clause-room g c = at_most 3 0 c.follow.ensures.room

pub returns-then-q-from-clause-room : goal.returns-then-q-from-clause-room
returns-then-q-from-clause-room g c = at_most 2 1 (both 1 1 c.arm_elect.ensures.room c.tell_ticket.ensures.room)

pub returns-else-q-from-clause-room : goal.returns-else-q-from-clause-room
returns-else-q-from-clause-room g c = more_room 1 2 c.report_conflict.ensures.room
