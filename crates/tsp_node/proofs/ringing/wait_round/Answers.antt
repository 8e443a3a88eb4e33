-- In time the round waits; late the next one is put off.
use Rattle.std.proofs.Common.{true, ap, sym, ◌∙◌}
use Rattle.tsp_rules.specs.Values.{Ring, Late, Round, ROUND}
use Rattle.tsp_base.specs.Words.{Deadlines, arms, puts, ◌followed_by◌}
use Rattle.tsp_base.proofs.PerformsLemmas.{Performs_else_part, Performs_then, Performs_then_part}
use Rattle.tsp_rules.specs.{Guards.is_in_time, Guards.is_met, RoundRows.begins_or_waits, RoundRows.round_rings}
use Rattle.tsp_node.proofs.ringing.wait_round.Goals as goal

pub returns-then-is_in_time-clause-row : goal.returns-then-is_in_time-clause-row
unfolding round_rings begins_or_waits
returns-then-is_in_time-clause-row g c =
    Performs_then_part (is_in_time Round) (puts (Late Round) followed_by arms Round ROUND) (λ past h. ap (λ (d : Deadlines). is_met d.round c.args.tick)
    (sym h.alarms) ∙ (sym c.is_in_time.ensures ∙ c.if-is_in_time.true))
    (Performs_then (c.ring.ensures.row c.args.tick) c.arm.ensures.row)

pub returns-else-is_in_time-clause-row : goal.returns-else-is_in_time-clause-row
unfolding round_rings
returns-else-is_in_time-clause-row g c =
    Performs_else_part (is_in_time Round) (puts (Ring Round) followed_by begins_or_waits true) (λ past h. ap (λ (d : Deadlines). is_met d.round c.args.tick)
    (sym h.alarms) ∙ (sym c.is_in_time.ensures ∙ c.if-is_in_time.false))
    (Performs_then (c.late.ensures.row c.args.tick) c.arm-else-is_in_time.ensures.row)
