use Rattle.std.proofs.Common.{◌≡◌, ◌<◌, ◌+◌, ◌++◌, take, decimal, ◌^◌}
use Rattle.tsp_script.proofs.digit_reader.digits_on.Given as goal

abbrev pub invariant-loop-place : goal.invariant-loop-place
invariant-loop-place l = (0 < l.number) × (l.number < 10 ^ (l.place + 1)) × (decimal l.number ≡ decimal l.fn.front ++ take l.place l.digits)
