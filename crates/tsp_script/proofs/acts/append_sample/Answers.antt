use Rattle.std.proofs.Common.{append_assoc}
use Rattle.std.{proofs.lemmas.Int.to_z-of_z, specs.Int.w64}
use Rattle.tsp_script.proofs.acts.append_sample.Goals as goal

pub returns : goal.returns
returns c =
    let diff = to_z-of_z w64 c.args.diff c.ranges.diff in
    let err = to_z-of_z w64 c.args.err c.ranges.err in
    simp (
      c.append_next_number-2.ensures.text,
      c.append_next_signed-2.ensures.text,
      c.append_next_signed.ensures.text,
      c.append_next_number.ensures.text,
      c.append_peer.ensures.text,
      diff,
      err,
      append_assoc,
    )
