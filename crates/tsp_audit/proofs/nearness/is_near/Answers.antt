-- Differences of such values are far less than what 128 bits hold.
use Rattle.std.proofs.Common.{arith}
use Rattle.std.proofs.lemmas.Int.{ints}
use Rattle.tsp_audit.proofs.nearness.is_near.Goals as goal

pub overflow_sub-a : goal.overflow_sub-a
overflow_sub-a c = omega (arith, ints)

pub overflow_sub-b : goal.overflow_sub-b
overflow_sub-b c = omega (arith, ints)

pub returns : goal.returns
returns c = omega (arith, ints)

pub returns-then-a-b : goal.returns-then-a-b
returns-then-a-b c = λ near. absurd (omega (arith, ints))

pub returns-then-b-a : goal.returns-then-b-a
returns-then-b-a c = λ near. absurd (omega (arith, ints))
