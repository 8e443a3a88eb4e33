-- The row's test is the entry's, and the table changes as the past does.
use Rattle.std.proofs.Common.{sym, ◌∙◌, refl}
use Rattle.tsp_base.specs.Words.{nothing, posts_time, timed}
use Rattle.tsp_base.proofs.PerformsLemmas.{Performs_then_part, Performs_else_part, Performs_nothing}
use Rattle.tsp_rules.{proofs.Emits.Emits_posts_time, specs.SendRows.begins_adjtime, specs.SendRows.may_correct, specs.Values.AdjTime}
use Rattle.tsp_master.proofs.{LeadLemmas.Performs_lead, RoomLemmas.once, TableLemmas.MasterStands_begins, TableLemmas.may_correct_is}
use Rattle.tsp_master.proofs.master.Master.begin_adjtime.Goals as goal

pub returns-then-may_correct-clause-row : goal.returns-then-may_correct-clause-row
unfolding begins_adjtime posts_time
returns-then-may_correct-clause-row g c clock =
    Performs_then_part (may_correct c.args.peer c.args.number) nothing (λ past h. may_correct_is c.args.peer c.args.number c.args.at.tick past _ _ h.master
    c.of.ensures ∙ sym c.may_correct.ensures ∙ c.if-may_correct.true)
    (Performs_lead _ _ clock (Emits_posts_time c.args.peer AdjTime c.args.number c.args.amount refl)
    (λ past h. MasterStands_begins c.args.peer (timed AdjTime c.args.number c.args.amount past.name) c.args.at.tick past _ _ refl h.acted
    c.change.ensures.entries c.change.ensures.peers refl h.master)
    c.begin_correction.ensures.row)

pub returns-else-may_correct-clause-row : goal.returns-else-may_correct-clause-row
unfolding begins_adjtime
returns-else-may_correct-clause-row g c clock =
    Performs_else_part (may_correct c.args.peer c.args.number) (posts_time c.args.peer AdjTime c.args.number c.args.amount)
    (λ past h. may_correct_is c.args.peer c.args.number c.args.at.tick past _ _ h.master c.of.ensures ∙ sym c.may_correct.ensures ∙
    c.if-may_correct.false) Performs_nothing

pub returns-then-may_correct-clause-room : goal.returns-then-may_correct-clause-room
returns-then-may_correct-clause-room g c = once 0 0 c.begin_correction.ensures.room
