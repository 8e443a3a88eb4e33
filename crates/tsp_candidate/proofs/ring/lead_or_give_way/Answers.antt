-- The row's test is the code's: the role, the alarm, and then the posts, or the end of the candidature.
use Rattle.std.proofs.Common.{◌∙◌}
use Rattle.tsp_base.proofs.PerformsLemmas.{Performs_then, Performs_then_part, Performs_else_part}
use Rattle.tsp_rules.specs.CandidateRows.{has_won, lead_row, yields}
use Rattle.tsp_candidate.proofs.ring.lead_or_give_way.Goals as goal

pub returns-then-has_won-clause-row : goal.returns-then-has_won-clause-row
unfolding lead_row
returns-then-has_won-clause-row g c =
    Performs_then_part has_won yields (λ past s. c.has_won.ensures c.args.tick past s ∙ c.if-has_won.true)
    (Performs_then (c.become_role.ensures.row c.args.tick) (Performs_then c.arm.ensures.row (c.post_to_others.ensures.row c.args.tick)))

pub returns-else-has_won-clause-row : goal.returns-else-has_won-clause-row
returns-else-has_won-clause-row g c =
    Performs_else_part has_won lead_row (λ past s. c.has_won.ensures c.args.tick past s ∙ c.if-has_won.false) c.give_way.ensures.row
