-- The clocks of the nodes so far stand so.
use Rattle.std.proofs.Common.{◌≤◌, ◌<◌, ℕ, length, get_or}
use Rattle.tsp_audit.specs.{Agreeing.IsAtPlace, Standings.StandsAs, declared.round_correction.NodeState.NodeState}
use Rattle.tsp_audit.specs.declared.shown.Standing.{Standing}
use Rattle.tsp_audit.proofs.standing.standings.Given as goal

abbrev pub invariant-loop-node : goal.invariant-loop-node
invariant-loop-node l = l.at ≤ 1000000000000000 → (k : ℕ) (a : NodeState) (s : Standing) → k < l.node → IsAtPlace l.states k a → k < length l.stand →
    StandsAs l.header l.at l.spare k a (get_or l.stand k s)
