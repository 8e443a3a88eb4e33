-- In time the measured peers are asked again; late the round is given up.
use Rattle.std.proofs.Common.{refl, sym, ◌∙◌, ap, length}
use Rattle.tsp_base.specs.Words.{Deadlines, puts, ◌followed_by◌}
use Rattle.tsp_base.proofs.PerformsLemmas.{Performs_else_part, Performs_then, Performs_then_part}
use Rattle.tsp_rules.specs.RoundRows.{abandons, arms_next, asks_measured, probe_rings}
use Rattle.tsp_rules.specs.{Guards.is_in_time, Values.Ring, Values.Late, Values.Probe}
use Rattle.tsp_measure.specs.Slaves.{peers_of}
use Rattle.tsp_master.proofs.{CloseCases.Performs_abandons, LeadLemmas.Performs_rung, LeadLemmas.in_time_is}
use Rattle.tsp_master.proofs.PhaseLemmas.{met_some, over_some, rings_early}
use Rattle.tsp_master.proofs.RoundLemmas.{MasterStands_late_probe, MasterStands_ring_probe}
use Rattle.tsp_master.{proofs.RoomLemmas.once, proofs.RoomLemmas.then_put, proofs.RoomLemmas.twice, specs.MasterStands.ProbesStands}
use Rattle.tsp_master.proofs.master.Master.ring_probe.Goals as goal

pub returns-then-not-is_in_time-clause-row : goal.returns-then-not-is_in_time-clause-row
unfolding probe_rings puts
returns-then-not-is_in_time-clause-row g c =
    Performs_else_part (is_in_time Probe) (puts (Ring Probe) followed_by (asks_measured followed_by arms_next))
    (λ past h. in_time_is Probe c.args.at.tick past c.args.station.now h.station (sym c.is_in_time.ensures ∙ c.if-not-is_in_time.true))
    (Performs_then
    (Performs_rung (Late Probe) _ _ c.args.clock.now refl (λ past. refl) (λ past h. MasterStands_late_probe c.args.at.tick past _ h.master) (λ past h k. k)
    (c.late.ensures.row c.args.at.tick))
    (Performs_abandons c.args.self.now c.args.clock.now (c.abandon.ensures.row c.args.at.tick)))

pub returns-then-count_probe-clause-row : goal.returns-then-count_probe-clause-row
unfolding probe_rings puts
returns-then-count_probe-clause-row g c =
    let x = c.args.at.tick in
    let due = over_some c.args.station.now.alarms.probe x c.requires.due in
    let low = met_some c.args.station.now.alarms.probe x due.0 (sym c.is_in_time.ensures ∙ c.if-not-is_in_time.false) due.1 in
    Performs_then_part (is_in_time Probe) (puts (Late Probe) followed_by abandons) (λ past h. in_time_is Probe x past c.args.station.now h.station
    (sym c.is_in_time.ensures ∙ c.if-not-is_in_time.false))
    (Performs_then
    (Performs_rung {Q = ProbesStands x} (Ring Probe) _ _ c.args.clock.now refl (λ past. refl)
    (λ past h. MasterStands_ring_probe x past _ _ refl c.if-count_probe.ensures.counts h.master)
    (λ past h k.
    let p = h.master.probing due.0 (ap (λ (d : Deadlines). d.probe) (sym h.station.alarms) ∙ due.1) in
    record { stands = k; goes = p.0; early = rings_early x due.0 past p low })
    (c.ring.ensures.row x))
    (Performs_then c.ask_measured.ensures.row (c.arm_next.ensures.row c.args.clock.now)))

pub returns-then-not-is_in_time-clause-room : goal.returns-then-not-is_in_time-clause-room
returns-then-not-is_in_time-clause-room g c = twice (length (peers_of c.args.self.now.slaves)) 0 c.late.ensures.room c.abandon.ensures.room

pub returns-then-count_probe-clause-room : goal.returns-then-count_probe-clause-room
returns-then-count_probe-clause-room g c = then_put (length (peers_of c.args.self.now.slaves)) c.ring.ensures.room c.ask_measured.ensures.room
    c.arm_next.ensures.room

pub returns-else-count_probe-clause-room : goal.returns-else-count_probe-clause-room
returns-else-count_probe-clause-room g c = once (length (peers_of c.args.self.now.slaves)) 1 c.ring.ensures.room
