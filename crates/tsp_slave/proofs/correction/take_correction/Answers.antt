-- Of the master that is followed the next correction acts, and any other may be a repeat.
use Rattle.std.proofs.Common.{◌≡◌, if◌then◌else◌, [], Some, true, refl, sym, ◌∙◌, ap}
use Rattle.tsp_base.specs.Words.{said, nothing, reading, ◌followed_by◌, correcting_of}
use Rattle.tsp_base.proofs.PerformsLemmas.{Performs_nothing, Performs_same, Performs_then, Performs_then_part, Performs_else_part}
use Rattle.tsp_rules.specs.{Guards.role_at, SlaveRows.acks_repeat, SlaveRows.confirms, SlaveRows.from_master}
use Rattle.tsp_slave.specs.ClockChanges.{change_in, changes_clock, correction_of}
use Rattle.tsp_slave.proofs.{BesideLemmas.Performs_station, ChangeLemmas.acts_at, ChangeLemmas.acts_at_is, ChangeLemmas.correction_of_is}
use Rattle.tsp_slave.proofs.SlaveLemmas.{AlsoStands_confirms, Performs_changes}
use Rattle.tsp_slave.proofs.RoomLemmas.{at_most, both, more_room}
use Rattle.tsp_slave.proofs.TellLemmas.{corrects_change, tells_nothing, tells_row, tells_still}
use Rattle.tsp_rules.proofs.{BuiltRoles.built_acks_repeat, EmitsBuilt.emits_built}
use Rattle.tsp_slave.proofs.correction.take_correction.Goals as goal

pub returns-then-not-follows-clause-row : goal.returns-then-not-follows-clause-row
unfolding nothing
returns-then-not-follows-clause-row g c took s =
    let row = correction_of c.args.from c.args.m.now.number (change_in c.args.m.now) in
    let x = c.args.at.tick in
    Performs_same (reading role_at (from_master c.args.from row))
    (λ past h. sym (c.follows.ensures row x past h.station ∙ ap (λ b. if b then row x past else []) c.if-not-follows.true)) Performs_nothing

pub returns-then-acts_now-clause-row : goal.returns-then-acts_now-clause-row
returns-then-acts_now-clause-row g c took s =
    let from = c.args.from in
    let m = c.args.m.now in
    let n = c.number-number.result in
    let change = c.of-change.result in
    let row = correction_of from m.number (change_in m) in
    let x = c.args.at.tick in
    let told : correcting_of (said took) ≡ Some (record { from = from; number = n }) = s ∙
    ap (λ k. Some (record { from = from; number = k })) (sym c.number-number.ensures) in
    Performs_same {r = correction_of from n change} (reading role_at (from_master from row))
    (λ past h. ap (λ k. correction_of from k change x past) c.number-number.ensures ∙ (ap (λ ch. correction_of from m.number ch x past) c.of-change.ensures
    ∙ sym (c.follows.ensures row x past h.station ∙ ap (λ b. if b then row x past else []) c.if-not-follows.false)))
    (rw (correction_of_is from n change) (Performs_then_part (acts_at n change) (acks_repeat from n)
    (λ past h. acts_at_is n change x past c.args.last.now c.args.clock.now h.last h.clock ∙ (sym c.acts_now.ensures ∙ c.if-acts_now.true))
    (Performs_then (Performs_changes change c.args.station.now c.args.last.now _ took _ told c.took.ensures c.make.ensures.row)
    (Performs_station (AlsoStands_confirms from n) c.confirm.ensures.row))))

pub returns-then-not-follows-clause-corrects : goal.returns-then-not-follows-clause-corrects
returns-then-not-follows-clause-corrects g c past took s h = tells_nothing c.args.at.port _

pub returns-then-acts_now-clause-corrects : goal.returns-then-acts_now-clause-corrects
returns-then-acts_now-clause-corrects g c past took s h =
    let from = c.args.from in
    let n = c.number-number.result in
    let change = c.of-change.result in
    let told : correcting_of (said took) ≡ Some (record { from = from; number = n }) = s ∙
    ap (λ k. Some (record { from = from; number = k })) (sym c.number-number.ensures) in
    tells_row (Performs_then (Performs_changes change c.args.station.now c.args.last.now _ took _ told c.took.ensures c.make.ensures.row)
    (Performs_station (AlsoStands_confirms from n) c.confirm.ensures.row))
    past h true (corrects_change change (confirms from n) c.args.at.tick past)

pub returns-else-acts_now-clause-corrects : goal.returns-else-acts_now-clause-corrects
returns-else-acts_now-clause-corrects g c past took s h =
    tells_still (emits_built refl (built_acks_repeat c.args.from c.number-number.result tt tt)) (c.ack_repeat.ensures.row c.args.clock.now took) past h

pub returns-else-acts_now-clause-row : goal.returns-else-acts_now-clause-row
returns-else-acts_now-clause-row g c took s =
    let from = c.args.from in
    let m = c.args.m.now in
    let n = c.number-number.result in
    let change = c.of-change.result in
    let row = correction_of from m.number (change_in m) in
    let x = c.args.at.tick in
    Performs_same {r = correction_of from n change} (reading role_at (from_master from row))
    (λ past h. ap (λ k. correction_of from k change x past) c.number-number.ensures ∙ (ap (λ ch. correction_of from m.number ch x past) c.of-change.ensures
    ∙ sym (c.follows.ensures row x past h.station ∙ ap (λ b. if b then row x past else []) c.if-not-follows.false)))
    (rw (correction_of_is from n change) (Performs_else_part (acts_at n change) (changes_clock change followed_by confirms from n)
    (λ past h. acts_at_is n change x past c.args.last.now c.args.clock.now h.last h.clock ∙ (sym c.acts_now.ensures ∙ c.if-acts_now.false))
    (c.ack_repeat.ensures.row c.args.clock.now took)))

pub returns-then-acts_now-clause-room : goal.returns-then-acts_now-clause-room
returns-then-acts_now-clause-room g c = at_most 3 0 (both 1 2 c.make.ensures.room c.confirm.ensures.room)

pub returns-else-acts_now-clause-room : goal.returns-else-acts_now-clause-room
returns-else-acts_now-clause-room g c = more_room 1 2 c.ack_repeat.ensures.room
