-- The peers so far, and those that are left.
use Rattle.std.proofs.Common.{◌≡◌, ◌++◌, drop}
use Rattle.tsp_run.specs.Networks.{peers_on}
use Rattle.tsp_networks.proofs.peers_of.Given as goal

abbrev pub invariant-loop-number : goal.invariant-loop-number
invariant-loop-number l = l.peers.items ++ peers_on (drop l.number-index l.numbers) ≡ peers_on l.numbers
