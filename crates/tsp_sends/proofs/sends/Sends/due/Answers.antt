-- The slot that the tree finds is repeated or emptied, and the tree gets its deadline.
use Rattle.std.proofs.Common.{◌≡◌, arith, length, length-set, get_or, set, refl, ap, ◌∙◌}
use Rattle.std.{proofs.lemmas.List.length-map, specs.Option.option_and_then}
use Rattle.tsp_sends.specs.declared.slot.Slot.{Slot}
use Rattle.tsp_sends.specs.{Deadlines.IsFirstDueAt, Repeating.kept, Slots.empty_slot, Slots.deadline_in, Slots.peers_of}
use Rattle.tsp_sends.proofs.{SendsLemmas.IsSends_fill, SendsLemmas.RepeatsNext_none, SendsLemmas.RepeatsNext_put, SlotLemmas.peers_of_set}
use Rattle.tsp_sends.proofs.sends.Sends.due.Goals as goal

pub returns-in_err-place-clause-sends : goal.returns-in_err-place-clause-sends
returns-in_err-place-clause-sends c =
    rw (← c.self.view_is) (RepeatsNext_none c.args.after c.args.tick c.self.inside.slots c.self.inside.tree.deadlines c.place_after-from.result
    c.from_residual.result c.self.invariant c.place_after-from.ensures c.in_err-place.ensures.place c.from_residual.ensures)

pub deadline-at-requires : goal.deadline-at-requires
deadline-at-requires c =
    let d : Slot = empty_slot (record { 0 = 0 }) in
    let found : IsFirstDueAt c.place_after-from.result c.args.tick c.self.inside.tree.deadlines c.in_ok-place.place = c.in_ok-place.ensures.place in
    let many : length c.self.inside.tree.deadlines ≡ length c.self.inside.slots = ap length c.self.invariant.deadlines_are ∙
    length-map c.self.inside.slots deadline_in in
    let slot : Slot = get_or c.self.inside.slots c.in_ok-place.place d in
    omega (
      arith,
      found.inside,
      many,
      ap length (c.repeat-due.ensures.slots d),
      length-set c.self.inside.slots c.in_ok-place.place
          (record slot { sending = option_and_then (kept c.args.tick) slot.sending }),
    )

pub invariant_of-self-2 : goal.invariant_of-self-2
invariant_of-self-2 c =
    let d : Slot = empty_slot (record { 0 = 0 }) in
    let found : IsFirstDueAt c.place_after-from.result c.args.tick c.self.inside.tree.deadlines c.in_ok-place.place = c.in_ok-place.ensures.place in
    let many : length c.self.inside.tree.deadlines ≡ length c.self.inside.slots = ap length c.self.invariant.deadlines_are ∙
    length-map c.self.inside.slots deadline_in in
    let slot : Slot = get_or c.self.inside.slots c.in_ok-place.place d in
    IsSends_fill c.self.inside.slots c.repeat-due.new.self c.self.inside.tree.deadlines c.put.new.self.deadlines c.in_ok-place.place d
    (record slot { sending = option_and_then (kept c.args.tick) slot.sending }) c.deadline-at.result
    c.self.invariant (omega (arith, found.inside, many)) (c.repeat-due.ensures.slots d) refl (c.deadline-at.ensures d)
    (c.put.ensures.deadlines ∙ ap (λ ds. set ds c.in_ok-place.place c.deadline-at.result) c.in_ok-place.ensures.deadlines)

pub returns-clause-sends : goal.returns-clause-sends
returns-clause-sends c =
    rw (← c.self.view_is) (RepeatsNext_put c.args.after c.args.tick c.self.inside.slots c.repeat-due.new.self c.self.inside.tree.deadlines
    c.place_after-from.result c.in_ok-place.place c.repeat-due.result
    c.self.invariant c.place_after-from.ensures c.in_ok-place.ensures.place c.repeat-due.ensures.due c.repeat-due.ensures.slots)

pub returns-clause-peers : goal.returns-clause-peers
returns-clause-peers c =
    let d : Slot = empty_slot (record { 0 = 0 }) in
    let slot : Slot = get_or c.self.inside.slots c.in_ok-place.place d in
    rw (← c.self.view_is) (ap peers_of (c.repeat-due.ensures.slots d) ∙ peers_of_set c.self.inside.slots c.in_ok-place.place d
    (record slot { sending = option_and_then (kept c.args.tick) slot.sending }) (λ h. refl))
