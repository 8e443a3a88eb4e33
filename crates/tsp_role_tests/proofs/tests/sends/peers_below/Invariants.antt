use Rattle.std.proofs.Common.{◌≡◌, ℕ, ◌<◌, length, get_or}
use Rattle.tsp_base.specs.declared.place.PeerId.{PeerId}
use Rattle.tsp_role_tests.proofs.tests.sends.peers_below.Given as goal

abbrev pub invariant-loop-number : goal.invariant-loop-number
invariant-loop-number l = record {
  count : length l.peers.items ≡ l.number;
  numbers : (k : ℕ) (d : PeerId) → k < l.number → (get_or l.peers.items k d).0 ≡ k;
}
