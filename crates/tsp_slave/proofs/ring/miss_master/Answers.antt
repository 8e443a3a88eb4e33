-- In time it searches, since it doesn't stand; late it waits again.
use Rattle.std.proofs.Common.{sym, ◌∙◌, length, refl, ◌≡◌, ◌&&◌, false}
use Rattle.tsp_base.specs.Words.{may_stand, puts, either_by, ◌followed_by◌}
use Rattle.tsp_base.proofs.PerformsLemmas.{Performs_then, Performs_then_part, Performs_else_part}
use Rattle.tsp_rules.specs.{CommonRows.arms_elect, CommonRows.searches, CommonRows.candidature_row, Guards.is_in_time, Guards.may_stand_at}
use Rattle.tsp_rules.specs.{SlaveRows.elect_rings, SlaveRows.loosens, Values.Ring, Values.Late, Values.Elect}
use Rattle.tsp_slave.proofs.{RoomLemmas.beside_peers, RoomLemmas.both, RowCases.may_stand_is, RowCases.stays_in_time}
use Rattle.tsp_slave.proofs.ring.miss_master.Goals as goal

pub returns-then-is_in_time-clause-row : goal.returns-then-is_in_time-clause-row
unfolding elect_rings
returns-then-is_in_time-clause-row g c =
    let st = c.args.station.now in
    let stays : (st.me.may && may_stand st.hold c.args.tick st.me.own) ≡ false = stays_in_time c.args.tick st (sym c.is_in_time.ensures ∙
    c.if-is_in_time.true) c.requires.stays in
    Performs_then_part (is_in_time Elect) (puts (Late Elect) followed_by arms_elect) (λ past s. let a = s.alarms in cc)
    (Performs_then (c.ring.ensures.row c.args.tick) (Performs_else_part may_stand_at candidature_row
    (λ past s. sym (may_stand_is c.args.tick past c.ring.new.self s) ∙ rw c.ring.ensures.station stays)
    (Performs_then (c.loosen.ensures.row c.args.tick) c.search.ensures.row)))

pub returns-else-is_in_time-clause-row : goal.returns-else-is_in_time-clause-row
unfolding elect_rings
returns-else-is_in_time-clause-row g c =
    Performs_else_part (is_in_time Elect) (puts (Ring Elect) followed_by either_by may_stand_at candidature_row (loosens followed_by searches))
    (λ past s. let a = s.alarms in cc)
    (Performs_then (c.late.ensures.row c.args.tick) c.arm_elect.ensures.row)

pub returns-else-is_in_time-clause-room : goal.returns-else-is_in_time-clause-room
returns-else-is_in_time-clause-room g c = beside_peers (length c.args.station.now.peers) 2 3 1 refl (both 1 1 c.late.ensures.room c.arm_elect.ensures.room)
