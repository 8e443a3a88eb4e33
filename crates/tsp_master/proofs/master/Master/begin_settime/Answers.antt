-- The row's tests are the entry's and the clock's, and the table changes as the past does.
use Rattle.std.proofs.Common.{true, false, sym, ◌∙◌, refl}
use Rattle.tsp_base.specs.Words.{nothing, posts_time, reading, timed}
use Rattle.tsp_base.proofs.PerformsLemmas.{Performs_then_part, Performs_else_part, Performs_nothing, Performs_reading}
use Rattle.tsp_rules.specs.{Guards.target_at, SendRows.begins_settime, SendRows.may_set, Values.SetTime}
use Rattle.tsp_rules.proofs.Emits.{Emits_posts_time}
use Rattle.tsp_master.proofs.{LeadLemmas.Performs_lead, RoomLemmas.once}
use Rattle.tsp_master.proofs.TableLemmas.{MasterStands_begins, may_set_is, may_set_none, target_is}
use Rattle.tsp_master.proofs.master.Master.begin_settime.Goals as goal

pub returns-then-may_correct-clause-row : goal.returns-then-may_correct-clause-row
unfolding begins_settime posts_time
returns-then-may_correct-clause-row g c =
    Performs_then_part (may_set c.args.peer c.args.number) nothing
    (λ past h. may_set_is c.args.peer c.args.number c.args.at.tick past _ _ c.args.clock.now true true h.master h.clock (c.of.ensures)
    (sym c.may_correct.ensures ∙ c.if-may_correct.true) (sym c.in-Some.ensures.range))
    (Performs_reading target_at (posts_time c.args.peer SetTime c.args.number) c.in-Some.value (λ past h. target_is c.args.at.tick past c.args.clock.now h.clock
    ∙ sym c.in-Some.ensures.value)
    (Performs_lead _ _ c.args.clock.now (Emits_posts_time c.args.peer SetTime c.args.number c.in-Some.value refl)
    (λ past h. MasterStands_begins c.args.peer (timed SetTime c.args.number c.in-Some.value past.name) c.args.at.tick past _ _ refl h.acted
    c.change.ensures.entries c.change.ensures.peers refl h.master)
    c.begin_correction.ensures.row))

pub returns-else-may_correct-clause-row : goal.returns-else-may_correct-clause-row
unfolding begins_settime
returns-else-may_correct-clause-row g c =
    Performs_else_part (may_set c.args.peer c.args.number) (reading target_at (posts_time c.args.peer SetTime c.args.number))
    (λ past h. may_set_is c.args.peer c.args.number c.args.at.tick past _ _ c.args.clock.now false true h.master h.clock (c.of.ensures)
    (sym c.may_correct.ensures ∙ c.if-may_correct.false) (sym c.in-Some.ensures.range)) Performs_nothing

pub returns-in-None-clause-row : goal.returns-in-None-clause-row
unfolding begins_settime
returns-in-None-clause-row g c =
    Performs_else_part (may_set c.args.peer c.args.number) (reading target_at (posts_time c.args.peer SetTime c.args.number))
    (λ past h. may_set_none c.args.peer c.args.number c.args.at.tick past c.args.clock.now h.clock (sym c.in-None.ensures.range)) Performs_nothing

pub returns-then-may_correct-clause-room : goal.returns-then-may_correct-clause-room
returns-then-may_correct-clause-room g c = once 0 0 c.begin_correction.ensures.room
