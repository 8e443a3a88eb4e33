use Rattle.std.proofs.Common.{◌≡◌, length}
use Rattle.bench_group.proofs.filled.Given as goal

abbrev pub invariant-loop-number : goal.invariant-loop-number
invariant-loop-number l = l.values.room ≡ length l.numbers
