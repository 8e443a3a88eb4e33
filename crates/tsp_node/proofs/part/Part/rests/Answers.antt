-- The earliest of the alarms and of the sends is that of both.
use Rattle.std.proofs.Common.{ap, refl, sym, ◌∙◌, not}
use Rattle.tsp_base.specs.Words.{earlier, least_deadline}
use Rattle.tsp_node.proofs.DueLemmas.{rests_not, rests_sends}
use Rattle.tsp_node.proofs.part.Part.rests.Goals as goal

pub returns-then-is_any_due : goal.returns-then-is_any_due
returns-then-is_any_due c =
    let d = c.args.self.now.station.alarms in
    let sends = c.least-sends in (
      earlier (least_deadline d) sends.result,
      record { sends = sends.result; first = sends.ensures; due_is = refl },
      rests_not d sends.result c.args.tick (sym c.is_any_due.ensures ∙ c.if-is_any_due.true),
    )

pub returns : goal.returns
returns c =
    let d = c.args.self.now.station.alarms in
    let sends = c.least-sends in (
      earlier (least_deadline d) sends.result,
      record { sends = sends.result; first = sends.ensures; due_is = refl },
      ap not c.is_over.ensures ∙
          rests_sends d sends.result c.args.tick (sym c.is_any_due.ensures ∙ c.if-is_any_due.false),
    )
