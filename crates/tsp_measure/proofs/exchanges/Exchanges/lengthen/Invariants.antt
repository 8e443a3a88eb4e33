-- The list is as long as it was lengthened.
use Rattle.std.proofs.Common.{◌≡◌, ℕ, length}
use Rattle.tsp_measure.specs.Peers.{with_peer}
use Rattle.tsp_measure.proofs.exchanges.Exchanges.lengthen.Given as goal

abbrev pub invariant-loop-next : goal.invariant-loop-next
invariant-loop-next l = record {
  peers : l.self.peers ≡ l.initial.self.peers;
  long : length l.self.measured ≡ l.next;
  same : (p : ℕ) → with_peer l.self p ≡ with_peer l.initial.self p;
}
