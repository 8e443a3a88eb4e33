use Rattle.std.proofs.Common.{length}
use Rattle.tsp_args.specs.Ports.{AllDiffer}
use Rattle.tsp_args.proofs.ports.all_differ.Given as goal

abbrev pub invariant-loop-first : goal.invariant-loop-first
invariant-loop-first l = (AllDiffer l.left → AllDiffer l.addrs) × (AllDiffer l.addrs → AllDiffer l.left)

abbrev pub decreases-loop-first : goal.decreases-loop-first
decreases-loop-first l = length l.left
