use Rattle.std.proofs.Common.{◌≡◌, ◌<◌, ◌++◌, length, decimal, ◌^◌}
use Rattle.tsp_script.proofs.digit_reader.each_digit.Given as goal

abbrev pub invariant-loop-digit : goal.invariant-loop-digit
invariant-loop-digit l = (0 < l.number) × (l.number < 2 ^ 64) × (decimal l.fn.front ++ l.fn.digits ≡ decimal l.number ++ l.rest)

abbrev pub decreases-loop-digit : goal.decreases-loop-digit
decreases-loop-digit l = length l.rest
