-- The role, and then the alarm.
use Rattle.tsp_base.proofs.PerformsLemmas.{Performs_then}
use Rattle.tsp_rules.specs.CandidateRows.{yields}
use Rattle.tsp_candidate.proofs.ring.give_way.Goals as goal

pub returns-clause-row : goal.returns-clause-row
unfolding yields
returns-clause-row g c = Performs_then (c.become_role.ensures.row c.args.tick) c.arm_elect.ensures.row
