-- A follower becomes Loose, any other role stays.
use Rattle.std.proofs.Common.{refl}
use Rattle.tsp_base.specs.Words.{puts, nothing}
use Rattle.tsp_base.proofs.PerformsLemmas.{Performs_then_part, Performs_else_part, Performs_nothing}
use Rattle.tsp_rules.specs.{Guards.follows_at, SlaveRows.loosens, Values.Become, Values.Loose}
use Rattle.tsp_rules.proofs.RowsOther.{is_follow_other}
use Rattle.tsp_slave.proofs.RoomLemmas.{at_most}
use Rattle.tsp_slave.proofs.ring.loosen.Goals as goal

pub returns-in-Follow-clause-row : goal.returns-in-Follow-clause-row
unfolding loosens
returns-in-Follow-clause-row g c x =
    Performs_then_part follows_at nothing (λ past s. rw (← s.role, c.in-Follow.is) refl) (c.become_role.ensures.row x)

pub returns-in_default-clause-row : goal.returns-in_default-clause-row
unfolding loosens
returns-in_default-clause-row g c x =
    let h = is_follow_other _ c.in_default.not-Follow in
    Performs_else_part follows_at (puts (Become Loose)) (λ past s. rw (← s.role) h) Performs_nothing

pub returns-in-Follow-clause-room : goal.returns-in-Follow-clause-room
returns-in-Follow-clause-room g c = at_most 1 0 c.become_role.ensures.room
