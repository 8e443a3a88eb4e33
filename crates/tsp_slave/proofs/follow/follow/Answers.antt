-- The role and the name, the alarm, and the ticket.
use Rattle.std.proofs.Common.{sym, ◌∙◌, ap}
use Rattle.tsp_base.proofs.PerformsLemmas.{Performs_then}
use Rattle.tsp_rules.specs.CommonRows.{follow_row}
use Rattle.tsp_acks.proofs.PeerLemmas.{among_Contains}
use Rattle.tsp_slave.proofs.{BesideLemmas.Performs_station, RoomLemmas.both, SlaveLemmas.AlsoStands_arms_elect, SlaveLemmas.follow_becomes}
use Rattle.tsp_slave.proofs.follow.follow.Goals as goal

pub become_role-requires-clause-peer : goal.become_role-requires-clause-peer
become_role-requires-clause-peer g c = among_Contains c.args.p c.args.station.now.peers c.requires.peer

pub returns-clause-row : goal.returns-clause-row
unfolding follow_row
returns-clause-row g c took e =
    Performs_then (follow_becomes c.args.p c.args.last.now _ c.args.clock.now took (c.keep_name.ensures ∙ ap (λ n. record c.args.last.now { name = n }) (sym e))
    (c.become_role.ensures.row c.args.tick))
    (Performs_then (Performs_station AlsoStands_arms_elect c.arm_elect.ensures.row) (c.tell_ticket.ensures.row c.args.tick _ took))

pub returns-clause-room : goal.returns-clause-room
returns-clause-room g c = both 2 1 (both 1 1 c.become_role.ensures.room c.arm_elect.ensures.room) c.tell_ticket.ensures.room
