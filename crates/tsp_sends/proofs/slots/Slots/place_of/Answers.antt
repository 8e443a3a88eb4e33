-- A search by the peers' numbers.
use Rattle.std.proofs.Common.{◌≡◌, sym, ap, ◌∙◌}
use Rattle.std.specs.Box.{boxed_slice_items}
use Rattle.tsp_sends.{proofs.HeldLemmas.peers_of_slots_of, proofs.SearchLemmas.IsPlaceOf_searched, specs.Slots.peers_of}
use Rattle.tsp_sends.proofs.slots.Slots.place_of.Goals as goal

pub returns : goal.returns
returns c =
    let peers : boxed_slice_items c.self.inside.peers ≡ peers_of c.args.self.now =
    sym (peers_of_slots_of (boxed_slice_items c.self.inside.peers) c.self.inside.held.items _ c.self.invariant) ∙ ap peers_of c.self.view_is in
    let bound = rw (c.as_slice.ensures.value, peers) at c.place_of.ensures.bound in
    let position = rw (c.as_slice.ensures.value, peers) at c.place_of.ensures.position in
    IsPlaceOf_searched c.args.self.now c.args.peer c.place_of.result c.requires bound position
