-- What is measured with each peer.
use Rattle.std.specs.Prelude.{ℕ, ◌==◌, if◌then◌else◌, List, ◌∷◌}
use Rattle.tsp_measure.specs.Measures.{Measured, nothing_measured}

-- the peers' numbers, ascending, and what is measured with each of them
pub record MeasuredPeers : Type 0 where
  pub peers : List ℕ
  pub measured : List Measured

-- what is at the place of a peer's number
abbrev pub at_peer : List ℕ → List Measured → ℕ → Measured
at_peer (q ∷ peers) (m ∷ measured) p = if q == p then m else at_peer peers measured p
at_peer _ _ p = nothing_measured

-- what is measured with a peer: nothing with one that isn't among the peers
abbrev pub with_peer : MeasuredPeers → ℕ → Measured
with_peer x p = at_peer x.peers x.measured p
