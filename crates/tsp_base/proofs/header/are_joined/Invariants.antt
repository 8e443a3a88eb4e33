use Rattle.std.proofs.Common.{◌≡◌, true}
use Rattle.tsp_base.specs.Words.{all_joined}
use Rattle.tsp_base.proofs.header.are_joined.Given as goal

abbrev pub invariant-loop-node : goal.invariant-loop-node
invariant-loop-node l = all_joined l.node l.nets ≡ true
