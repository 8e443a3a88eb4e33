-- Each alarm has its row.
use Rattle.std.proofs.Common.{sym, ◌∙◌, ap, length, refl}
use Rattle.tsp_base.{proofs.PerformsLemmas.Performs_nothing, proofs.PerformsLemmas.Performs_to, specs.Words.Deadlines}
use Rattle.tsp_rules.specs.Guards.{is_over}
use Rattle.tsp_measure.specs.Slaves.{peers_of}
use Rattle.tsp_master.specs.MasterAlarms.{master_rings}
use Rattle.tsp_master.proofs.{CloseLemmas.goes_where, LeadLemmas.rings_stand, RingCases.master_rings_other, RingCases.nothing_corrects}
use Rattle.tsp_master.proofs.{RoomLemmas.doubled, SinceLemmas.since_correct, StillLemmas.probe_corrects, StillLemmas.round_corrects}
use Rattle.tsp_master.proofs.master.Master.ring.Goals as goal

pub returns-in-Probe-clause-row : goal.returns-in-Probe-clause-row
unfolding master_rings
returns-in-Probe-clause-row g c turn = rw c.in-Probe.is (Performs_to (λ past h. rings_stand past _ h) c.ring_probe.ensures.row)

pub returns-in-Probe-clause-corrects : goal.returns-in-Probe-clause-corrects
unfolding master_rings
returns-in-Probe-clause-corrects g c turn past h = rw c.in-Probe.is (sym (probe_corrects c.args.tick past))

pub returns-in-Close-clause-row : goal.returns-in-Close-clause-row
unfolding master_rings
returns-in-Close-clause-row g c turn = rw c.in-Close.is (Performs_to (λ past h. rings_stand past _ h) (c.ring_close.ensures.row (turn c.in-Close.is)))

pub returns-in-Close-clause-corrects : goal.returns-in-Close-clause-corrects
unfolding master_rings
returns-in-Close-clause-corrects g c turn past h = rw c.in-Close.is (c.ring_close.ensures.corrects (turn c.in-Close.is) past h)

pub returns-in-Round-clause-row : goal.returns-in-Round-clause-row
unfolding master_rings
returns-in-Round-clause-row g c turn = rw c.in-Round.is (Performs_to (λ past h. rings_stand past _ h) c.ring_round.ensures.row)

pub returns-in-Round-clause-corrects : goal.returns-in-Round-clause-corrects
unfolding master_rings
returns-in-Round-clause-corrects g c turn past h = rw c.in-Round.is (sym (round_corrects c.args.tick past))

pub returns-in_default-clause-row : goal.returns-in_default-clause-row
returns-in_default-clause-row g c turn = rw (master_rings_other c.args.group_mean _ c.in_default.not-Probe c.in_default.not-Close c.in_default.not-Round)
    Performs_nothing

pub returns-in_default-clause-corrects : goal.returns-in_default-clause-corrects
returns-in_default-clause-corrects g c turn past h = rw (master_rings_other c.args.group_mean _ c.in_default.not-Probe c.in_default.not-Close
    c.in_default.not-Round) (nothing_corrects c.args.tick past)

pub returns-in-Close-clause-recent : goal.returns-in-Close-clause-recent
returns-in-Close-clause-recent g c e past h alone p s b =
    since_correct past c.args.self.now p s h.master (goes_where c.args.tick past (ap (λ (d : Deadlines). is_over d.close c.args.tick) (sym h.station.alarms) ∙
    rw e at c.requires.due)) alone b

pub returns-in-Probe-clause-room : goal.returns-in-Probe-clause-room
returns-in-Probe-clause-room g c = doubled (length (peers_of c.args.self.now.slaves)) 2 4 2 refl c.ring_probe.ensures.room

pub returns-in-Close-clause-room : goal.returns-in-Close-clause-room
returns-in-Close-clause-room g c = doubled (length (peers_of c.args.self.now.slaves)) 3 4 1 refl c.ring_close.ensures.room
