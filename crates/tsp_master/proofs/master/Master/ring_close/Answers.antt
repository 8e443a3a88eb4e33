-- Late the round is given up. In time the alarm rings, and then the group, the test, and one act after the other.
use Rattle.std.proofs.Common.{◌≡◌, ◌+ℤ◌, refl, sym, ◌∙◌, ap, length, w64, to_z, of_z, to_z-of_z, SFits, rules}
use Rattle.tsp_base.proofs.PerformsLemmas.{Performs_else_part, Performs_then, Performs_then_part}
use Rattle.tsp_base.{proofs.FrameLemmas.PutsExactly_put, specs.Words.for_each, specs.Words.puts, specs.Words.◌followed_by◌}
use Rattle.tsp_rules.specs.RoundRows.{abandons, close_act, closes_with, corrects_peer, mean_by, moves}
use Rattle.tsp_rules.{proofs.Emits.Emits_puts, specs.ClockRows.can_adjust, specs.Guards.is_clock_value, specs.Values.Close}
use Rattle.tsp_clock.specs.Clocks.{target_of}
use Rattle.tsp_measure.specs.Slaves.{peers_of}
use Rattle.tsp_master.proofs.CloseCases.{Performs_abandons, Performs_late_close, Performs_timely_close, can_adjust_is, corrects_late, corrects_timely}
use Rattle.tsp_master.proofs.{CloseLemmas.each_same, LeadLemmas.Performs_idle, LeadLemmas.Performs_quiet}
use Rattle.tsp_master.{proofs.RoomLemmas.once_then, proofs.RoomLemmas.put_then, proofs.RoomLemmas.twice, specs.Closing.round_of}
use Rattle.tsp_master.proofs.master.Master.ring_close.Goals as goal

pub returns-then-not-is_in_time-clause-row : goal.returns-then-not-is_in_time-clause-row
unfolding abandons
returns-then-not-is_in_time-clause-row g c order =
    Performs_late_close c.args.own _ c.args.clock.now (order, c.requires.due) (sym c.is_in_time.ensures ∙
    c.if-not-is_in_time.true) (c.late.ensures.row c.args.at.tick) (c.abandon.ensures.row c.args.at.tick)

pub returns-then-not-is_in_time-clause-corrects : goal.returns-then-not-is_in_time-clause-corrects
returns-then-not-is_in_time-clause-corrects g c order past h = sym (corrects_late c.args.own c.args.at.tick past c.args.station.now h.station
    (sym c.is_in_time.ensures ∙ c.if-not-is_in_time.true))

pub returns-then-not-can_adjust-clause-row : goal.returns-then-not-can_adjust-clause-row
unfolding closes_with abandons
returns-then-not-can_adjust-clause-row g c order =
    let x = c.args.at.tick in
    let m = c.args.self.now in
    let own = c.args.own in
    let k = c.group-group.result in
    let mean = c.mean_by-mean.result in
    let fits : SFits w64 mean = search rules in
    let back : to_z w64 (of_z w64 mean) ≡ mean = to_z-of_z fits in
    let is : mean ≡ mean_by own k = c.mean_by-mean.ensures.value in
    let test = rw back at c.can_adjust.ensures in
    Performs_timely_close own m c.group-group.new.self k c.args.clock.now (order, c.requires.due) (sym c.is_in_time.ensures ∙
    c.if-not-is_in_time.false) c.group-group.ensures.group c.group-group.ensures.slaves c.group-group.ensures.rounds
    (c.ring.ensures.row x)
    (Performs_else_part (can_adjust (mean_by own k)) (puts (close_act own k) followed_by
    (moves own (mean_by own k) followed_by for_each (corrects_peer (mean_by own k)) (round_of m.slaves m.rounds)))
    (λ past h. ap (λ z. can_adjust z x past) (sym is) ∙ can_adjust_is mean x past c.args.clock.now h.clock (sym test ∙ c.if-not-can_adjust.true))
    (Performs_abandons c.group-group.new.self c.args.clock.now (c.abandon-then-not-can_adjust.ensures.row x)))

pub returns-then-not-can_adjust-clause-corrects : goal.returns-then-not-can_adjust-clause-corrects
returns-then-not-can_adjust-clause-corrects g c order past h =
    let mean = c.mean_by-mean.result in
    let clock = c.args.clock.now in
    let fits : SFits w64 mean = search rules in
    let back : to_z w64 (of_z w64 mean) ≡ mean = to_z-of_z fits in
    let test = rw back at c.can_adjust.ensures in
    sym (corrects_timely c.args.own c.args.at.tick past c.args.self.now c.args.station.now clock c.group-group.result h (
      order,
      c.requires.due,
    ) (sym c.is_in_time.ensures ∙ c.if-not-is_in_time.false) c.group-group.ensures.group
    (ap (λ z. is_clock_value (target_of clock c.args.at.tick +ℤ z)) (sym c.mean_by-mean.ensures.value) ∙ sym test ∙ c.if-not-can_adjust.true))

pub returns-clause-row : goal.returns-clause-row
unfolding closes_with
returns-clause-row g c order =
    let x = c.args.at.tick in
    let m = c.args.self.now in
    let own = c.args.own in
    let k = c.group-group.result in
    let mean = c.mean_by-mean.result in
    let fits : SFits w64 mean = search rules in
    let back : to_z w64 (of_z w64 mean) ≡ mean = to_z-of_z fits in
    let is : mean ≡ mean_by own k = c.mean_by-mean.ensures.value in
    let test = rw back at c.can_adjust.ensures in
    let fits_lo : SFits w64 k.lo = search rules in
    let fits_width : SFits w64 k.width = search rules in
    let back_lo : to_z w64 (of_z w64 k.lo) ≡ k.lo = to_z-of_z fits_lo in
    let back_width : to_z w64 (of_z w64 k.width) ≡ k.width = to_z-of_z fits_width in
    let put = rw (back, back_lo, back_width) at c.put.ensures.acts in
    let moved = rw back at c.move_own.ensures.row in
    let each = rw back at c.correct_each.ensures.row in
    Performs_timely_close own m c.group-group.new.self k c.args.clock.now (order, c.requires.due) (sym c.is_in_time.ensures ∙
    c.if-not-is_in_time.false) c.group-group.ensures.group c.group-group.ensures.slaves c.group-group.ensures.rounds
    (c.ring.ensures.row x)
    (Performs_then_part (can_adjust (mean_by own k)) abandons
    (λ past h. ap (λ z. can_adjust z x past) (sym is) ∙ can_adjust_is mean x past c.args.clock.now h.clock (sym test ∙ c.if-not-can_adjust.false))
    (rw (← is) (Performs_then (Performs_quiet _ c.args.clock.now (Emits_puts (Close k.count k.lo k.width mean) refl)
    (Performs_idle (Close k.count k.lo k.width mean) refl put))
    (Performs_then (moved c.group-group.new.self c.ring.new.self) (each_same mean c.group-group.ensures.slaves c.group-group.ensures.rounds each)))))

pub returns-clause-corrects : goal.returns-clause-corrects
returns-clause-corrects g c order past h =
    let mean = c.mean_by-mean.result in
    let clock = c.args.clock.now in
    let fits : SFits w64 mean = search rules in
    let back : to_z w64 (of_z w64 mean) ≡ mean = to_z-of_z fits in
    let test = rw back at c.can_adjust.ensures in
    sym (corrects_timely c.args.own c.args.at.tick past c.args.self.now c.args.station.now clock c.group-group.result h (
      order,
      c.requires.due,
    ) (sym c.is_in_time.ensures ∙ c.if-not-is_in_time.false) c.group-group.ensures.group
    (ap (λ z. is_clock_value (target_of clock c.args.at.tick +ℤ z)) (sym c.mean_by-mean.ensures.value) ∙ sym test ∙ c.if-not-can_adjust.false))

pub returns-then-not-is_in_time-clause-room : goal.returns-then-not-is_in_time-clause-room
returns-then-not-is_in_time-clause-room g c = twice (length (peers_of c.args.self.now.slaves)) 1 c.late.ensures.room c.abandon.ensures.room

pub returns-then-not-can_adjust-clause-room : goal.returns-then-not-can_adjust-clause-room
returns-then-not-can_adjust-clause-room g c = twice (length (peers_of c.args.self.now.slaves)) 1 c.ring.ensures.room c.abandon-then-not-can_adjust.ensures.room

pub returns-clause-room : goal.returns-clause-room
returns-clause-room g c =
    let each = rw (ap peers_of c.group-group.ensures.slaves) at c.correct_each.ensures.room in
    once_then (length (peers_of c.args.self.now.slaves)) 2 c.ring.ensures.room (put_then (length (peers_of c.args.self.now.slaves))
    (PutsExactly_put _ c.put.ensures.spare c.put.ensures.acts) c.move_own.ensures.room each)
