-- The row's test is the code's.
use Rattle.tsp_base.specs.Words.{puts, ◌followed_by◌, posts}
use Rattle.tsp_base.proofs.PerformsLemmas.{Performs_then, Performs_then_part, Performs_else_part}
use Rattle.tsp_rules.specs.{CommonRows.arms_elect, Guards.may_back_at, SlaveRows.election_of, Values.Back, Values.Accept, Values.Refuse}
use Rattle.tsp_slave.proofs.RoomLemmas.{at_most, both}
use Rattle.tsp_slave.proofs.election.vote.Goals as goal

pub returns-then-may_back-clause-row : goal.returns-then-may_back-clause-row
unfolding election_of
returns-then-may_back-clause-row g c =
    Performs_then_part (may_back_at c.args.from) (posts c.args.from Refuse c.args.number) (λ past s. let h = s.hold in cc)
    (Performs_then c.back.ensures.row (Performs_then c.arm_elect.ensures.row (c.post.ensures.row c.args.at.tick)))

pub returns-else-may_back-clause-row : goal.returns-else-may_back-clause-row
unfolding election_of
returns-else-may_back-clause-row g c =
    Performs_else_part (may_back_at c.args.from) (puts (Back c.args.from) followed_by (arms_elect followed_by posts c.args.from Accept c.args.number))
    (λ past s. let h = s.hold in cc) (c.post-else-may_back.ensures.row c.args.at.tick)

pub returns-then-may_back-clause-room : goal.returns-then-may_back-clause-room
returns-then-may_back-clause-room g c = at_most 3 0 (both 2 1 (both 1 1 c.back.ensures.room c.arm_elect.ensures.room) c.post.ensures.room)

pub returns-else-may_back-clause-room : goal.returns-else-may_back-clause-room
returns-else-may_back-clause-room g c = at_most 1 2 c.post-else-may_back.ensures.room
