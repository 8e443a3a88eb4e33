-- In time a round begins; the next one is put off in any case.
use Rattle.std.proofs.Common.{false, refl, sym, ◌∙◌, length, ◌*◌}
use Rattle.tsp_rules.specs.Values.{Ring, Late, Round, ROUND}
use Rattle.tsp_base.specs.Words.{arms, puts, ◌followed_by◌}
use Rattle.tsp_base.proofs.PerformsLemmas.{Performs_else_part, Performs_then, Performs_then_part}
use Rattle.tsp_rules.{proofs.Emits.Emits_arms, specs.Guards.is_in_time, specs.RoundRows.begins_or_waits, specs.RoundRows.round_rings}
use Rattle.tsp_acks.proofs.ActingLemmas.{Performs_acting}
use Rattle.tsp_measure.specs.Slaves.{peers_of}
use Rattle.tsp_master.proofs.{LeadLemmas.Performs_quiet, LeadLemmas.Performs_rung, LeadLemmas.in_time_is, TableLemmas.MasterStands_quiet}
use Rattle.tsp_master.proofs.RoomLemmas.{once_then, twice}
use Rattle.tsp_master.proofs.master.Master.ring_round.Goals as goal

pub returns-then-is_in_time-clause-row : goal.returns-then-is_in_time-clause-row
unfolding round_rings begins_or_waits puts
returns-then-is_in_time-clause-row g c =
    Performs_then_part (is_in_time Round) (puts (Late Round) followed_by arms Round ROUND) (λ past h. in_time_is Round c.args.at.tick past c.args.station.now
    h.station (sym c.is_in_time.ensures ∙ c.if-is_in_time.true))
    (Performs_then (Performs_rung (Ring Round) _ _ c.args.clock.now refl (λ past. refl) (λ past h. MasterStands_quiet (Ring Round) refl c.args.at.tick past _
    h.master) (λ past h k. k) (c.ring.ensures.row c.args.at.tick)) c.begin_round.ensures.row)

pub returns-else-is_in_time-clause-row : goal.returns-else-is_in_time-clause-row
unfolding round_rings puts
returns-else-is_in_time-clause-row g c =
    Performs_else_part (is_in_time Round) (puts (Ring Round) followed_by begins_or_waits false)
    (λ past h. in_time_is Round c.args.at.tick past c.args.station.now h.station (sym c.is_in_time.ensures ∙ c.if-is_in_time.false))
    (Performs_then (Performs_rung (Late Round) _ _ c.args.clock.now refl (λ past. refl) (λ past h. MasterStands_quiet (Late Round) refl c.args.at.tick past _
    h.master) (λ past h k. k) (c.late.ensures.row c.args.at.tick)) (Performs_quiet _ c.args.clock.now (Emits_arms Round ROUND refl)
    (Performs_acting c.arm.ensures.row)))

pub returns-then-is_in_time-clause-room : goal.returns-then-is_in_time-clause-room
returns-then-is_in_time-clause-room g c = once_then (2 * length (peers_of c.args.self.now.slaves)) 3 c.ring.ensures.room c.begin_round.ensures.room

pub returns-else-is_in_time-clause-room : goal.returns-else-is_in_time-clause-room
returns-else-is_in_time-clause-room g c = twice (2 * length (peers_of c.args.self.now.slaves)) 2 c.late.ensures.room c.arm.ensures.room
