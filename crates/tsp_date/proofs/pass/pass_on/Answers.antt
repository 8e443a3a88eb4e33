-- The client is answered, and then the date begins to be passed on.
use Rattle.std.proofs.Common.{◌≡◌, refl, ◌∙◌}
use Rattle.tsp_base.specs.Words.{◌followed_by◌, nothing, posts_back, time_in}
use Rattle.tsp_base.proofs.PerformsLemmas.{Performs_else_part, Performs_nothing, Performs_then, Performs_then_part}
use Rattle.tsp_rules.specs.{DateRows.may_pass_on, DateRows.passes_on, SendRows.begins_timed, Values.Ack, Values.SetDateReq}
use Rattle.tsp_rules.proofs.Emits.{Emits_posts_back}
use Rattle.tsp_date.proofs.DateLemmas.{Performs_asks, Performs_posting}
use Rattle.tsp_master.proofs.RoomLemmas.{twice}
use Rattle.tsp_date.proofs.pass.pass_on.Goals as goal

pub returns-then-may_pass_on-clause-row : goal.returns-then-may_pass_on-clause-row
unfolding passes_on
returns-then-may_pass_on-clause-row g c s r t =
    let m = c.args.m.now in
    let begins = c.begin_timed.ensures.row in
    Performs_then_part (may_pass_on c.args.master) nothing (λ past h. c.may_pass_on.ensures past h.station h.dates ∙ c.if-may_pass_on.true)
    (Performs_then
    (Performs_posting (record s { dates = c.args.dates.now }) (Emits_posts_back c.args.from Ack m.number refl)
    (rw c.number.ensures at (c.post_back.ensures.row c.args.at.tick)))
    (Performs_asks s c.args.master (time_in m.body) c.args.dates.now _ r t c.ask.ensures (rw c.time_of.ensures at begins)))

pub returns-else-may_pass_on-clause-row : goal.returns-else-may_pass_on-clause-row
unfolding passes_on
returns-else-may_pass_on-clause-row g c s r t =
    Performs_else_part (may_pass_on c.args.master) (posts_back c.args.from Ack c.args.m.now.number followed_by begins_timed SetDateReq c.args.master
    (time_in c.args.m.now.body))
    (λ past h. c.may_pass_on.ensures past h.station h.dates ∙ c.if-may_pass_on.false) Performs_nothing

pub returns-then-may_pass_on-clause-room : goal.returns-then-may_pass_on-clause-room
returns-then-may_pass_on-clause-room g c = twice 0 0 c.post_back.ensures.room c.begin_timed.ensures.room
