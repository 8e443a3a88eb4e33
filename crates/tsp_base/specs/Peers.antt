-- Lists of peers.
use Rattle.std.specs.Prelude.{◌≤◌, ◌==◌, Bool, false, ◌||◌, List, [], ◌∷◌, map, length}
use Rattle.std.specs.List.Sorted.{IsStrictlyIncreasing}
use Rattle.tsp_base.specs.declared.place.PeerId.{PeerId}

-- whether p is one of these peers
abbrev pub is_among : PeerId → List PeerId → Bool
is_among p [] = false
is_among p (q ∷ rest) = (q.0 == p.0) || is_among p rest

-- the peers' numbers ascend, each strictly below the next
abbrev pub IsAscending : List PeerId → Type 0
IsAscending peers = IsStrictlyIncreasing (map (λ p. p.0) peers)

-- at most 1,000 peers, ascending
pub record IsPeers (peers : List PeerId) : Type 0 where
  pub few : length peers ≤ 1000
  pub ascending : IsAscending peers
