-- The node agrees with those so far.
use Rattle.std.proofs.Common.{◌≤◌, ◌<◌, ℕ}
use Rattle.tsp_audit.specs.{Agreeing.AllBounded, Agreeing.IsAtPlace, Agreeing.PairAgrees, Standings.AllStand}
use Rattle.tsp_audit.specs.declared.round_correction.NodeState.{NodeState}
use Rattle.tsp_base.specs.Words.{HeaderValue}
use Rattle.tsp_audit.proofs.nearness.pairs_agree.Given as goal

abbrev pub invariant-loop-k : goal.invariant-loop-k
invariant-loop-k l = (header : HeaderValue) (at spare : ℕ) → AllStand header at spare l.states l.stand → IsAtPlace l.states l.node l.a → AllBounded l.states →
    (k : ℕ) (b : NodeState) → k < l.k → k ≤ l.node → IsAtPlace l.states k b → PairAgrees header at spare l.node l.a k b
