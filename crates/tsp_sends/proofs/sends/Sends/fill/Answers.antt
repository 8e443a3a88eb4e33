-- The slot's deadline is put into the tree.
use Rattle.std.proofs.Common.{◌<◌, arith, length, length-set, get_or, refl, ap}
use Rattle.tsp_sends.{proofs.SendsLemmas.IsSends_fill, specs.Slots.empty_slot, specs.declared.slot.Slot.Slot}
use Rattle.tsp_sends.proofs.sends.Sends.fill.Goals as goal

pub deadline-at-requires : goal.deadline-at-requires
deadline-at-requires c =
    let d : Slot = empty_slot (record { 0 = 0 }) in
    omega (
      arith,
      c.requires,
      ap length c.self.view_is,
      ap length (c.set.ensures d),
      length-set c.self.inside.slots c.args.place (record (get_or c.self.inside.slots c.args.place d) { sending = c.args.sending }),
    )

pub invariant_of-self : goal.invariant_of-self
invariant_of-self c =
    let d : Slot = empty_slot (record { 0 = 0 }) in
    let inside : c.args.place < length c.self.inside.slots = omega (arith, c.requires, ap length c.self.view_is) in
    IsSends_fill c.self.inside.slots c.set.new.self c.self.inside.tree.deadlines c.put.new.self.deadlines c.args.place d
    (record (get_or c.self.inside.slots c.args.place d) { sending = c.args.sending }) c.deadline-at.result
    c.self.invariant inside (c.set.ensures d) refl (c.deadline-at.ensures d) c.put.ensures.deadlines
