-- One empty slot more is the next peer's.
use Rattle.std.proofs.Common.{◌≡◌, ◌∙◌, ◌+◌, ◌<◌, ◌∷◌, [], ◌++◌, length, get_or, arith, sym, ap}
use Rattle.std.proofs.lemmas.List.{get_or_default, length_push}
use Rattle.tsp_base.specs.declared.place.PeerId.{PeerId}
use Rattle.tsp_sends.specs.{Held.slots_of, Slots.empty_slot, declared.slot.Slot.Slot}
use Rattle.tsp_sends.proofs.HeldLemmas.{slots_of_more, AreHeld_more}
use Rattle.tsp_sends.proofs.slots.lengthen.Goals as goal

pub loop-next-preserved : goal.loop-next-preserved
loop-next-preserved c =
    let inv = c.loop-next.invariant in
    let ps = c.args.peers.now in
    let held = c.loop-next.held.items in
    let z : PeerId = record { 0 = 0 } in
    let p : PeerId = get_or ps c.loop-next.next z in
    let inside : length held < length ps = omega (arith, inv.long, c.loop-next-test.true, c.requires.inside) in
    let here : get_or ps c.loop-next.next z ≡ get_or ps (length held) (get_or ps c.loop-next.next z) = ap (λ n. get_or ps n z) (sym inv.long) ∙
    get_or_default ps (length held) z (get_or ps c.loop-next.next z) inside in
    let items : c.push_reserved.new.self.items ≡ held ++ empty_slot (get_or ps c.loop-next.next z) ∷ [] = c.push_reserved.ensures.items ∙
    ap (λ (s : Slot). held ++ s ∷ []) c.new.ensures in
    record {
      held = rw (items, c.push_reserved.ensures.capacity) (AreHeld_more ps held _ p inv.held inside here);
      same = ap (slots_of ps) items ∙ slots_of_more ps held p inside here ∙ inv.same;
      long = ap length items ∙ length_push held (empty_slot p) ∙ ap (λ n. n + 1) inv.long;
    }
