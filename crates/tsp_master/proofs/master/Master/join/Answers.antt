-- The row's test is the table's; the peer joins, and then it is sent the time.
use Rattle.std.proofs.Common.{sym, ◌∙◌, refl}
use Rattle.tsp_base.proofs.PerformsLemmas.{Performs_then, Performs_then_part, Performs_else_part, Performs_nothing}
use Rattle.tsp_base.{proofs.FrameLemmas.PutsExactly_put, specs.Words.nothing, specs.Words.puts, specs.Words.◌followed_by◌}
use Rattle.tsp_rules.specs.{MasterRows.joins, MasterRows.may_join, SendRows.begins_settime, Values.Join}
use Rattle.tsp_rules.proofs.Emits.{Emits_puts}
use Rattle.tsp_master.proofs.{LeadLemmas.Performs_idle, LeadLemmas.Performs_lead, RoomLemmas.once_then}
use Rattle.tsp_master.proofs.TakeLemmas.{MasterStands_joins, may_join_is}
use Rattle.tsp_master.proofs.master.Master.join.Goals as goal

pub returns-then-may_join-clause-row : goal.returns-then-may_join-clause-row
unfolding joins puts
returns-then-may_join-clause-row g c role =
    rw (← c.number-number.ensures) (Performs_then_part (may_join c.args.peer c.number-number.result) nothing
    (λ past h. may_join_is c.args.peer c.number-number.result c.args.at.tick past _ h.master ∙ sym c.may_join.ensures ∙ c.if-may_join.true)
    (Performs_then
    (Performs_lead _ _ c.args.clock.now (Emits_puts (Join c.args.peer) refl)
    (λ past h. MasterStands_joins c.args.peer c.args.at.tick past _ _ c.args.station.now h.station role c.change.ensures.entries c.change.ensures.peers refl
    h.master)
    (Performs_idle (Join c.args.peer) refl c.put.ensures.acts))
    c.begin_settime.ensures.row))

pub returns-else-may_join-clause-row : goal.returns-else-may_join-clause-row
unfolding joins
returns-else-may_join-clause-row g c role =
    rw (← c.number-number.ensures) (Performs_else_part (may_join c.args.peer c.number-number.result) (puts (Join c.args.peer) followed_by begins_settime
    c.args.peer c.number-number.result)
    (λ past h. may_join_is c.args.peer c.number-number.result c.args.at.tick past _ h.master ∙ sym c.may_join.ensures ∙ c.if-may_join.false) Performs_nothing)

pub returns-then-may_join-clause-room : goal.returns-then-may_join-clause-room
returns-then-may_join-clause-room g c = once_then 0 1 (PutsExactly_put _ c.put.ensures.spare c.put.ensures.acts) c.begin_settime.ensures.room
