-- Each node so far was corrected by no later reading.
use Rattle.std.proofs.Common.{◌<◌, ℕ}
use Rattle.tsp_audit.specs.{Agreeing.IsAtPlace, Agreeing.IsReadBy, declared.round_correction.NodeState.NodeState}
use Rattle.tsp_audit.proofs.nearness.all_past.Given as goal

abbrev pub invariant-loop-n : goal.invariant-loop-n
invariant-loop-n l = (n : ℕ) (a : NodeState) → n < l.n → IsAtPlace l.states n a → IsReadBy l.at a
