-- The numbers so far.
use Rattle.std.proofs.Common.{◌≡◌, vec_len}
use Rattle.tsp_run.specs.Networks.{numbers_below}
use Rattle.tsp_networks.proofs.all_nodes.Given as goal

abbrev pub invariant-loop-number : goal.invariant-loop-number
invariant-loop-number l = record { numbers : l.numbers.items ≡ numbers_below l.number; count : vec_len l.numbers ≡ l.number }
