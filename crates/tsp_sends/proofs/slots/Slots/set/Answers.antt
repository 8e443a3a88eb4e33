-- The slot is held, and gets the send.
use Rattle.std.proofs.Common.{◌≡◌, ◌∙◌, set, ap}
use Rattle.std.specs.Box.{boxed_slice_items}
use Rattle.tsp_sends.specs.{Held.slots_of, declared.slot.Slot.Slot}
use Rattle.tsp_sends.proofs.HeldLemmas.{AreHeld-set, slot_held, slots_of_changed}
use Rattle.tsp_sends.proofs.slots.Slots.set.Goals as goal

pub invariant_of-self : goal.invariant_of-self
invariant_of-self c =
    let held = rw c.as_slice.ensures.value at c.lengthen.ensures.held in
    AreHeld-set (boxed_slice_items c.self.inside.peers) c.lengthen.new.held.items _ c.args.place c.index_mut.result.now
    (record { peer = c.index_mut.result.now.peer; sending = c.args.sending }) held (λ h. ap (λ (s : Slot). s.peer) c.index_mut.ensures.value)

pub returns : goal.returns
returns c d =
    let ps = boxed_slice_items c.self.inside.peers in
    let same : slots_of ps c.lengthen.new.held.items ≡ c.args.self.now = (rw c.as_slice.ensures.value at c.lengthen.ensures.same) ∙ c.self.view_is in
    slots_of_changed ps c.lengthen.new.held.items c.args.self.now c.args.place (record { peer = c.index_mut.result.now.peer; sending = c.args.sending }) same
    c.lengthen.ensures.long
    ∙ ap (λ (s : Slot). set c.args.self.now c.args.place (record s { sending = c.args.sending })) (slot_held ps c.lengthen.new.held.items c.args.self.now
    c.args.place c.index_mut.result.now d same c.lengthen.ensures.long c.index_mut.ensures.value)
