-- No send is open in a slot that isn't held.
use Rattle.std.proofs.Common.{◌≤◌, length, sym, ap, rules}
use Rattle.std.specs.Box.{boxed_slice_items}
use Rattle.tsp_sends.{proofs.HeldLemmas.none_past, specs.Slots.kind_of}
use Rattle.tsp_sends.proofs.slots.Slots.kind.Goals as goal

pub returns-else-place-len : goal.returns-else-place-len
returns-else-place-len c d =
    let past : length c.self.inside.held.items ≤ c.args.place = search rules in
    sym (ap kind_of (none_past (boxed_slice_items c.self.inside.peers) c.self.inside.held.items c.args.self.now _ c.args.place d c.self.invariant c.self.view_is
    past c.requires))
