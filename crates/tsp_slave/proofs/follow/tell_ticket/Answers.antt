-- The number is the clock's ticket.
use Rattle.std.specs.Prelude.{refl}
use Rattle.tsp_base.{proofs.PerformsLemmas.Performs_reading, specs.Words.posts}
use Rattle.tsp_rules.specs.{CommonRows.tells_ticket, Guards.ticket_at, Values.SlaveUp}
use Rattle.tsp_slave.proofs.{BesideLemmas.Performs_station, SlaveLemmas.AlsoStands_posts}
use Rattle.tsp_slave.proofs.follow.tell_ticket.Goals as goal

pub returns-clause-row : goal.returns-clause-row
unfolding tells_ticket
returns-clause-row g c x last took =
    Performs_reading ticket_at (posts c.args.p SlaveUp) c.ticket.result (λ past h. let t = h.clock.ticket_is in let v = c.ticket.ensures.value in cc)
    (Performs_station (AlsoStands_posts c.args.p SlaveUp c.ticket.result refl) (c.post.ensures.row x))
