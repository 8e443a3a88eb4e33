-- A schedule's header.
use Rattle.std.specs.Prelude.{◌≡◌, ℕ, zero, suc, ◌≤◌, ◌<◌, Bool, true, ◌&&◌, ◌||◌, ◌==◌, List, [], ◌∷◌, ◌++◌, length, count_by, nat_abs, Ok, Err}
use Rattle.std.specs.{List.All, List.list_any, List.Sorted.IsStrictlyIncreasing, declared.result.Result.Result}
use Rattle.tsp_base.specs.{Names.IsName, declared.header.HeaderFault.HeaderFault, declared.header.NodeLine.NodeLine}
use Rattle.tsp_base.specs.declared.header.HeaderFault.TheVariants.{Full, Rate, Wall, Nets, Net, OutOfMemory}

-- the drift in parts in a million, whether elections are strict, and the nodes and the networks in order
pub record HeaderValue : Type 0 where
  pub drift : ℕ
  pub strict : Bool
  pub nodes : List NodeLine
  pub nets : List (List ℕ)

-- a node whose name is valid, whose rate is at most the drift in magnitude, and whose wall clock is in range
pub record KeepsDrift (drift : ℕ) (line : NodeLine) : Type 0 where
  pub name : IsName line.name
  pub rate : nat_abs line.rate ≤ drift
  pub wall : nat_abs line.wall ≤ 1000000000000000

-- the numbers of at least one of this many nodes, in strictly ascending order
pub record IsNet (nodes : ℕ) (net : List ℕ) : Type 0 where
  pub some : 0 < length net
  pub ascending : IsStrictlyIncreasing net
  pub known : All (λ n. n < nodes) net

-- a node is a member of a network
abbrev pub has_member : ℕ → List ℕ → Bool
has_member n net = list_any (λ m. m == n) net

-- how many of these networks a node is in
abbrev pub nets_with : ℕ → List (List ℕ) → ℕ
nets_with n nets = count_by (has_member n) nets

-- at most 64 nodes whose rates are at most the drift, and at most 64 networks of them; no node is in more than 4
pub record IsHeader (header : HeaderValue) : Type 0 where
  pub small : header.drift ≤ 1000
  pub few : length header.nodes ≤ 64
  pub kept : All (KeepsDrift header.drift) header.nodes
  pub few_nets : length header.nets ≤ 64
  pub nets_are : All (IsNet (length header.nodes)) header.nets
  pub few_ports : (n : ℕ) → nets_with n header.nets ≤ 4

-- what adding a node to a header answers, and the header after it
abbrev pub Pushes : HeaderValue → NodeLine → Result Unit HeaderFault → HeaderValue → Type 0
Pushes old line (Ok _) new = (length old.nodes < 64) × KeepsDrift old.drift line × (new ≡ record old { nodes = old.nodes ++ line ∷ [] })
Pushes old line (Err Full) new = (64 ≤ length old.nodes) × (new ≡ old)
Pushes old line (Err Rate) new = (length old.nodes < 64) × (old.drift < nat_abs line.rate) × (new ≡ old)
Pushes old line (Err Wall) new = (length old.nodes < 64) × (nat_abs line.rate ≤ old.drift) × (1000000000000000 < nat_abs line.wall) × (new ≡ old)
Pushes old line (Err OutOfMemory) new = new ≡ old
Pushes old line (Err Nets) new = ⊥
Pushes old line (Err Net) new = ⊥

-- these nodes may become a network: they are one, and each of them is in fewer than 4 so far
pub record Joins (nodes : ℕ) (nets : List (List ℕ)) (net : List ℕ) : Type 0 where
  pub net_is : IsNet nodes net
  pub free : All (λ n. nets_with n nets < 4) net

-- what adding a network to a header answers, and the header after it
abbrev pub AddsNet : HeaderValue → List ℕ → Result Unit HeaderFault → HeaderValue → Type 0
AddsNet old net (Ok _) new = (length old.nets < 64) × Joins (length old.nodes) old.nets net × (new ≡ record old { nets = old.nets ++ net ∷ [] })
AddsNet old net (Err Nets) new = (64 ≤ length old.nets) × (new ≡ old)
AddsNet old net (Err Net) new = (length old.nets < 64) × ¬ Joins (length old.nodes) old.nets net × (new ≡ old)
AddsNet old net (Err OutOfMemory) new = new ≡ old
AddsNet old net (Err Full) new = ⊥
AddsNet old net (Err Rate) new = ⊥
AddsNet old net (Err Wall) new = ⊥

-- each node below this number is in one of the networks
abbrev pub all_joined : ℕ → List (List ℕ) → Bool
all_joined zero nets = true
all_joined (suc n) nets = all_joined n nets && list_any (has_member n) nets

-- there is no network, or each node is in one
abbrev pub is_whole : HeaderValue → Bool
is_whole header = length header.nets == 0 || all_joined (length header.nodes) header.nets
