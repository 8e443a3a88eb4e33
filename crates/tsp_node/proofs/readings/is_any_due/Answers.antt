-- The tests of all alarms are that of the earliest.
use Rattle.std.proofs.Common.{◌≡◌, ◌∙◌, ℕ, arith, false, inl, inr, subst, sym, slice_index_or}
use Rattle.std.proofs.lemmas.Bool.{cases_lt}
use Rattle.tsp_base.specs.Words.{deadline}
use Rattle.tsp_rules.specs.{Guards.is_over, Values.Alarm, Values.Quiet, Values.ALL}
use Rattle.tsp_node.proofs.{AlarmCases.at_place, AlarmCases.has_place, AlarmCases.place, DueLemmas.none_over, DueLemmas.over_at}
use Rattle.tsp_node.proofs.readings.is_any_due.Goals as goal

pub returns-then-is_due : goal.returns-then-is_due
returns-then-is_due c = sym (over_at c.args.station.now.alarms c.args.tick (slice_index_or ALL c.loop-alarm.alarm-index Quiet) (sym c.is_due.ensures ∙
    c.if-is_due.true))

pub loop-alarm-init : goal.loop-alarm-init
loop-alarm-init c = λ i lt. absurd (omega (arith, lt))

pub loop-alarm-preserved : goal.loop-alarm-preserved
loop-alarm-preserved c =
    let alarms = c.args.station.now.alarms in
    let at = λ (i : ℕ). is_over (deadline alarms (slice_index_or ALL i Quiet)) c.args.tick ≡ false in
    λ i lt. elim (cases_lt i c.loop-alarm.alarm-index) [
      | inl before ↦ c.loop-alarm.invariant i before
      | inr after ↦ let now : c.loop-alarm.alarm-index ≡ i = omega (arith, lt, after) in subst at now (sym c.is_due.ensures ∙ c.if-is_due.false)
    ]

pub returns : goal.returns
returns c =
    let alarms = c.args.station.now.alarms in
    let waits = λ (a : Alarm). subst (λ (b : Alarm). is_over (deadline alarms b) c.args.tick ≡
    false) (at_place a) (c.loop-alarm.invariant (place a) (omega (arith, has_place a, c.loop-alarm-test.false))) in
    sym (none_over alarms c.args.tick waits)
