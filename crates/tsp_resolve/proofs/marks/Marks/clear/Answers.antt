-- Each mark is taken away.
use Rattle.std.proofs.Common.{◌≡◌, false, length, replicate, refl, ap, ◌∙◌, arith}
use Rattle.std.{proofs.lemmas.List.length-replicate, specs.Box.boxed_slice_items, specs.Box.boxed_slice_len}
use Rattle.tsp_resolve.proofs.MarksLemmas.{written}
use Rattle.tsp_resolve.proofs.marks.Marks.clear.Goals as goal

pub returns : goal.returns
returns c =
    let items = boxed_slice_items c.self.inside.items in
    let is : c.unset_each.new.marks ≡ replicate (length items) false = c.unset_each.ensures ∙
    ap (λ xs. replicate (length xs) false) c.as_mut_slice.ensures.value in
    let many : boxed_slice_len c.self.inside.items ≡ length c.unset_each.new.marks = omega (
      arith,
      ap length is,
      length-replicate (length items) false,
      c.as_mut_slice.ensures.len,
      ap length c.as_mut_slice.ensures.value,
    ) in
    rw (written (boxed_slice_len c.self.inside.items) c.unset_each.new.marks items many, is, ← c.self.view_is) refl
