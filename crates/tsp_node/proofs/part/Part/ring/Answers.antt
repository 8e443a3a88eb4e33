-- An alarm that is due rings; any other does nothing.
use Rattle.std.proofs.Common.{◌≡◌, ◌∙◌, arith, sym, true, false}
use Rattle.tsp_base.specs.Words.{deadline}
use Rattle.tsp_rules.specs.Guards.{is_over}
use Rattle.tsp_node.specs.NodeStands.{port_with}
use Rattle.tsp_node.proofs.AlarmCases.{Performs_not_due, Performs_now_due, corrects_not_due, corrects_now_due}
use Rattle.tsp_node.proofs.part.Part.ring.Goals as goal

pub returns-then-not-is_due-clause-row : goal.returns-then-not-is_due-clause-row
returns-then-not-is_due-clause-row g c turn =
    let late : is_over (deadline c.args.self.now.station.alarms c.args.alarm) c.args.tick ≡ false = sym c.is_due.ensures ∙ c.if-not-is_due.true in
    Performs_not_due c.args.group_mean c.args.wait c.args.alarm (port_with c.args.self.now c.args.clock.now) late

pub returns-then-not-is_due-clause-corrects : goal.returns-then-not-is_due-clause-corrects
returns-then-not-is_due-clause-corrects g c turn =
    let late : is_over (deadline c.args.self.now.station.alarms c.args.alarm) c.args.tick ≡ false = sym c.is_due.ensures ∙ c.if-not-is_due.true in
    corrects_not_due c.args.tick c.args.group_mean c.args.wait c.args.alarm (port_with c.args.self.now c.args.clock.now) late

pub returns-clause-row : goal.returns-clause-row
returns-clause-row g c turn =
    let due : is_over (deadline c.args.self.now.station.alarms c.args.alarm) c.args.tick ≡ true = sym c.is_due.ensures ∙ c.if-not-is_due.false in
    Performs_now_due c.args.group_mean c.args.wait c.args.alarm (port_with c.args.self.now c.args.clock.now) due (c.ring_due.ensures.row turn)

pub returns-clause-corrects : goal.returns-clause-corrects
returns-clause-corrects g c turn =
    let due : is_over (deadline c.args.self.now.station.alarms c.args.alarm) c.args.tick ≡ true = sym c.is_due.ensures ∙ c.if-not-is_due.false in
    corrects_now_due c.args.tick c.args.group_mean c.args.wait c.args.alarm (port_with c.args.self.now c.args.clock.now) due _
    (c.ring_due.ensures.corrects turn)

pub ring_due-requires : goal.ring_due-requires
ring_due-requires g c = record {
  tick = c.requires.tick;
  later = c.requires.later;
  due = sym c.is_due.ensures ∙ c.if-not-is_due.false;
  room = omega (arith, c.requires.room);
}
