use Rattle.std.proofs.Common.{arith}
use Rattle.tsp_script.proofs.Digits.{digits_bound, digits_small, digits_more}
use Rattle.tsp_script.proofs.digit_reader.digits_on.Goals as goal

pub overflow_mul-number : goal.overflow_mul-number
overflow_mul-number c = let small = digits_small c.loop-place.number c.loop-place.place (omega arith) c.loop-place.invariant.1 in omega (arith, small)

pub overflow_add-number : goal.overflow_add-number
overflow_add-number c = let small = digits_small c.loop-place.number c.loop-place.place (omega arith) c.loop-place.invariant.1 in omega (arith, small)

pub loop-place-preserved : goal.loop-place-preserved
loop-place-preserved c =
    let i = c.loop-place.invariant in
    let small = digits_small c.loop-place.number c.loop-place.place (omega arith) i.1 in (
      omega (arith, i.0),
      digits_bound c.loop-place.number c.loop-place.place _ i.1 (omega arith) (omega arith),
      digits_more c.args.front c.loop-place.number c.loop-place.place c.args.digits.now (omega arith) i.0 (omega (arith, small)) (omega arith) (omega arith)
          i.2,
    )
