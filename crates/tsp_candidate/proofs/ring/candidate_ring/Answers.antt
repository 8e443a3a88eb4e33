-- In time it leads or gives way, late it gives way.
use Rattle.tsp_base.specs.Words.{puts, either_by, ◌followed_by◌}
use Rattle.tsp_base.proofs.PerformsLemmas.{Performs_then, Performs_then_part, Performs_else_part}
use Rattle.tsp_rules.specs.CandidateRows.{has_won, lead_row, window_rings, yields}
use Rattle.tsp_rules.specs.{Guards.is_in_time, Values.Ring, Values.Late, Values.Window}
use Rattle.tsp_candidate.proofs.ring.candidate_ring.Goals as goal

pub returns-then-is_in_time-clause-row : goal.returns-then-is_in_time-clause-row
unfolding window_rings
returns-then-is_in_time-clause-row g c =
    Performs_then_part (is_in_time Window) (puts (Late Window) followed_by yields) (λ past s. let a = s.alarms in cc)
    (Performs_then (c.ring.ensures.row c.args.tick) c.lead_or_give_way.ensures.row)

pub returns-else-is_in_time-clause-row : goal.returns-else-is_in_time-clause-row
unfolding window_rings
returns-else-is_in_time-clause-row g c =
    Performs_else_part (is_in_time Window) (puts (Ring Window) followed_by either_by has_won lead_row yields) (λ past s. let a = s.alarms in cc)
    (Performs_then (c.late.ensures.row c.args.tick) c.give_way.ensures.row)
