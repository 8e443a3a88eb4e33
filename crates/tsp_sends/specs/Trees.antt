-- A complete binary tree of deadlines: node 1 is the root, and nodes 2 * i and 2 * i + 1 are the children of node i.
use Rattle.std.specs.Prelude.{◌≡◌, ◌≢◌, ℕ, ◌+◌, ◌*◌, ◌^◌, ◌≤◌, ◌<◌, List, length, Option, None}
use Rattle.tsp_base.specs.Words.{earlier}
use Rattle.tsp_sends.specs.Deadlines.{deadline_at}

-- the nodes, and how often one was read
pub record StoreValue : Type 0 where
  pub nodes : List (Option ℕ)
  pub looks : ℕ

-- the deadlines of the places, and how often a node was read
pub record TreeValue : Type 0 where
  pub deadlines : List (Option ℕ)
  pub looks : ℕ

-- each node with children has the earlier one of their deadlines, except the node `hole`; 0 excepts none
pub record HoldsEarlier (hole : ℕ) (nodes : List (Option ℕ)) : Type 0 where
  pub parents : (i : ℕ) → 0 < i → i ≢ hole → 2 * i + 1 < length nodes → deadline_at nodes i ≡
      earlier (deadline_at nodes (2 * i)) (deadline_at nodes (2 * i + 1))

-- the last level has 2 ^ levels leaves, of which the first ones are the places; the others have no deadline
pub record IsTree (nodes : List (Option ℕ)) (places levels : ℕ) : Type 0 where
  pub size : length nodes ≡ 2 * 2 ^ levels
  pub small : levels ≤ 60
  pub enough : places ≤ 2 ^ levels
  pub tight : (k : ℕ) → places ≤ 2 ^ k → levels ≤ k
  pub earlier : HoldsEarlier 0 nodes
  pub spare : (i : ℕ) → 2 ^ levels + places ≤ i → deadline_at nodes i ≡ None
