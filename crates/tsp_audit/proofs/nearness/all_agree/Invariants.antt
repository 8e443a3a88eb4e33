-- Each node so far agrees.
use Rattle.std.proofs.Common.{◌≤◌, ◌<◌, ℕ}
use Rattle.tsp_audit.specs.{Agreeing.AllBounded, Agreeing.IsAtPlace, Agreeing.AgreesBack, declared.round_correction.NodeState.NodeState}
use Rattle.tsp_audit.proofs.nearness.all_agree.Given as goal

abbrev pub invariant-loop-n : goal.invariant-loop-n
invariant-loop-n l = l.at ≤ 1000000000000000 → AllBounded l.states → (n : ℕ) (a : NodeState) → n < l.n → IsAtPlace l.states n a →
    AgreesBack l.header l.at l.spare n a l.states
