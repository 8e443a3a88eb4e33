-- The row's test is the code's.
use Rattle.tsp_base.{proofs.PerformsLemmas.Performs_then_part, proofs.PerformsLemmas.Performs_else_part, specs.Words.puts}
use Rattle.tsp_rules.specs.{Guards.is_in_time, SlaveRows.rings_or_late, Values.Ring, Values.Late}
use Rattle.tsp_slave.proofs.ring.ring_or_late.Goals as goal

pub returns-then-is_in_time-clause-row : goal.returns-then-is_in_time-clause-row
unfolding rings_or_late
returns-then-is_in_time-clause-row g c =
    Performs_then_part (is_in_time c.args.alarm) (puts (Late c.args.alarm)) (λ past s. let a = s.alarms in cc) (c.ring.ensures.row c.args.tick)

pub returns-else-is_in_time-clause-row : goal.returns-else-is_in_time-clause-row
unfolding rings_or_late
returns-else-is_in_time-clause-row g c =
    Performs_else_part (is_in_time c.args.alarm) (puts (Ring c.args.alarm)) (λ past s. let a = s.alarms in cc) (c.late.ensures.row c.args.tick)
