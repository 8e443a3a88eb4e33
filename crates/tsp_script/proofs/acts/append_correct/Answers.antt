use Rattle.std.proofs.Common.{append_assoc}
use Rattle.std.{proofs.lemmas.Int.to_z-of_z, specs.Int.w64}
use Rattle.tsp_script.proofs.acts.append_correct.Goals as goal

pub returns : goal.returns
returns c =
    let amount = to_z-of_z w64 c.args.amount c.ranges.amount in
    let shown = to_z-of_z w64 c.args.shown c.ranges.shown in
    simp (
      c.append_signed-2.ensures.text,
      c.append-2.ensures,
      c.append_signed.ensures.text,
      c.append.ensures,
      c.way_word.ensures.word,
      amount,
      shown,
      append_assoc,
    )
