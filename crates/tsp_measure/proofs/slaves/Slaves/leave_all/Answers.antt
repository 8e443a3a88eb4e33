-- Each entry is changed.
use Rattle.std.proofs.Common.{◌≡◌, length, map, refl, ap, ◌∙◌, arith, subst, sym}
use Rattle.std.{proofs.lemmas.List.length-map, specs.Box.boxed_slice_items, specs.Box.boxed_slice_len}
use Rattle.tsp_base.specs.Words.{IsPeers}
use Rattle.tsp_measure.{proofs.Entries.ChangesAll_map, proofs.Entries.peers_of_map, proofs.Entries.written, specs.Slaves.leaves}
use Rattle.tsp_measure.proofs.slaves.Slaves.leave_all.Goals as goal

pub invariant_of-self : goal.invariant_of-self
invariant_of-self c =
    let is : c.leave_each.new.entries ≡ map leaves (boxed_slice_items c.self.inside.entries) = c.leave_each.ensures ∙
    ap (map leaves) c.as_mut_slice.ensures.value in
    let many : boxed_slice_len c.self.inside.entries ≡ length c.leave_each.new.entries =
    omega (
      arith,
      ap length is,
      length-map (boxed_slice_items c.self.inside.entries) leaves,
      c.as_mut_slice.ensures.len,
      ap length c.as_mut_slice.ensures.value,
    ) in
    rw (
      written (boxed_slice_len c.self.inside.entries) c.leave_each.new.entries (boxed_slice_items c.self.inside.entries) many,
      is,
    ) (subst IsPeers (sym (peers_of_map leaves (λ e. refl) (boxed_slice_items c.self.inside.entries))) c.self.invariant)

pub returns : goal.returns
returns c =
    let is : c.leave_each.new.entries ≡ map leaves (boxed_slice_items c.self.inside.entries) = c.leave_each.ensures ∙
    ap (map leaves) c.as_mut_slice.ensures.value in
    let many : boxed_slice_len c.self.inside.entries ≡ length c.leave_each.new.entries =
    omega (
      arith,
      ap length is,
      length-map (boxed_slice_items c.self.inside.entries) leaves,
      c.as_mut_slice.ensures.len,
      ap length c.as_mut_slice.ensures.value,
    ) in
    record {
      entries = rw (
        written (boxed_slice_len c.self.inside.entries) c.leave_each.new.entries (boxed_slice_items c.self.inside.entries) many,
        is,
        ← c.self.view_is,
      ) (ChangesAll_map leaves (λ e. refl) (λ p. refl) (boxed_slice_items c.self.inside.entries));
      peers = rw (
        written (boxed_slice_len c.self.inside.entries) c.leave_each.new.entries (boxed_slice_items c.self.inside.entries) many,
        is,
        ← c.self.view_is,
      ) (peers_of_map leaves (λ e. refl) (boxed_slice_items c.self.inside.entries));
    }
