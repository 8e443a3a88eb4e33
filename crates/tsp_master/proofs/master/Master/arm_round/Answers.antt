-- The two alarms, and what they make of the master.
use Rattle.std.proofs.Common.{refl}
use Rattle.tsp_rules.specs.Values.{Probe, CloseAlarm, CLOSE, PROBE}
use Rattle.tsp_base.{proofs.PerformsLemmas.Performs_then, specs.Words.arms, specs.Words.◌followed_by◌}
use Rattle.tsp_rules.proofs.Emits.{Emits_arms, Emits_then}
use Rattle.tsp_acks.proofs.ActingLemmas.{Performs_acting}
use Rattle.tsp_master.proofs.{LeadLemmas.Performs_lead_by, PhaseLemmas.MasterStands_begins_round, RoomLemmas.twice}
use Rattle.tsp_master.proofs.master.Master.arm_round.Goals as goal

pub returns-clause-row : goal.returns-clause-row
unfolding arms ◌followed_by◌
returns-clause-row g c clock =
    Performs_lead_by _ _ clock (Emits_then (arms Probe PROBE) (arms CloseAlarm CLOSE) (Emits_arms Probe PROBE refl) (Emits_arms CloseAlarm CLOSE refl))
    (λ past h. h)
    (λ past h. MasterStands_begins_round c.args.tick past _ _ c.unmeasure_all.ensures.entries c.unmeasure_all.ensures.peers c.begin.ensures.nothing
    c.begin.ensures.asked c.begin.ensures.probes h.master)
    (λ past h k. record { stands = k; goes = refl; starts = refl })
    (Performs_then (Performs_acting c.arm.ensures.row) (Performs_acting c.arm-2.ensures.row))

pub returns-clause-room : goal.returns-clause-room
returns-clause-room g c = twice 0 0 c.arm.ensures.room c.arm-2.ensures.room
