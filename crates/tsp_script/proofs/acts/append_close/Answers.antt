use Rattle.std.proofs.Common.{append_assoc}
use Rattle.std.{proofs.lemmas.Int.to_z-of_z, specs.Int.w64}
use Rattle.tsp_script.proofs.acts.append_close.Goals as goal

pub returns : goal.returns
returns c =
    let lo = to_z-of_z w64 c.args.lo c.ranges.lo in
    let width = to_z-of_z w64 c.args.width c.ranges.width in
    let mean = to_z-of_z w64 c.args.mean c.ranges.mean in
    simp (
      c.append_next_signed-3.ensures.text,
      c.append_next_signed-2.ensures.text,
      c.append_next_signed.ensures.text,
      c.append_number.ensures.text,
      c.append.ensures,
      lo,
      width,
      mean,
      append_assoc,
    )
