-- The slot is held, and is repeated.
use Rattle.std.proofs.Common.{◌≡◌, ◌∙◌, set, ap}
use Rattle.std.specs.{Box.boxed_slice_items, Option.option_map, Option.option_and_then}
use Rattle.tsp_sends.specs.{Held.slots_of, Repeating.repeated, Repeating.kept, declared.slot.Slot.Slot}
use Rattle.tsp_sends.proofs.HeldLemmas.{AreHeld-set, slot_held, slot_is, slots_of_changed}
use Rattle.tsp_sends.proofs.slots.Slots.repeat.Goals as goal

pub invariant_of-self : goal.invariant_of-self
invariant_of-self c =
    let held = rw c.as_slice.ensures.value at c.lengthen.ensures.held in
    AreHeld-set (boxed_slice_items c.self.inside.peers) c.lengthen.new.held.items _ c.args.place c.index_mut.result.now c.repeat.new.self held
    (λ h. c.repeat.ensures.peer ∙ ap (λ (s : Slot). s.peer) c.index_mut.ensures.value)

pub returns-clause-due : goal.returns-clause-due
returns-clause-due c d =
    let ps = boxed_slice_items c.self.inside.peers in
    let same : slots_of ps c.lengthen.new.held.items ≡ c.args.self.now = (rw c.as_slice.ensures.value at c.lengthen.ensures.same) ∙ c.self.view_is in
    c.repeat.ensures.due ∙ ap (λ (s : Slot). option_map (repeated s.peer c.args.tick) s.sending) (slot_held ps c.lengthen.new.held.items c.args.self.now
    c.args.place c.index_mut.result.now d same c.lengthen.ensures.long c.index_mut.ensures.value)

pub returns-clause-slots : goal.returns-clause-slots
returns-clause-slots c d =
    let ps = boxed_slice_items c.self.inside.peers in
    let same : slots_of ps c.lengthen.new.held.items ≡ c.args.self.now = (rw c.as_slice.ensures.value at c.lengthen.ensures.same) ∙ c.self.view_is in
    let x = c.index_mut.result.now in
    let new : c.repeat.new.self ≡ record { peer = c.index_mut.result.now.peer; sending = option_and_then (kept c.args.tick) c.index_mut.result.now.sending } =
    slot_is c.repeat.new.self _ _ c.repeat.ensures.peer c.repeat.ensures.sending in
    slots_of_changed ps c.lengthen.new.held.items c.args.self.now c.args.place c.repeat.new.self same c.lengthen.ensures.long
    ∙ ap (set c.args.self.now c.args.place) new
    ∙ ap (λ (s : Slot). set c.args.self.now c.args.place (record s { sending = option_and_then (kept c.args.tick) s.sending }))
    (slot_held ps c.lengthen.new.held.items c.args.self.now c.args.place c.index_mut.result.now d same c.lengthen.ensures.long c.index_mut.ensures.value)
