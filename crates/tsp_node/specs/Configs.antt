-- The configuration of a node, and the pasts of a node with it.
use Rattle.std.specs.Prelude.{◌≡◌, ℕ, ℤ, Bool, true, false, List}
use Rattle.tsp_base.specs.Words.{Past, is_among, IsPeers}
use Rattle.tsp_rules.specs.{Guards.is_clock_value, NodeRows.PortSetup, Values.PeerId}
use Rattle.tsp_node.specs.declared.fault.BootFault.{BootFault, TheVariants.Peers, TheVariants.Range, TheVariants.OutOfMemory}

-- a node's host name, its own number, all peers, whether it may be master, and whether a candidate needs a majority
pub record ConfigValue : Type 0 where
  pub name : List ℕ
  pub own : PeerId
  pub peers : List PeerId
  pub may : Bool
  pub strict : Bool

-- an allowed port: at most 1,000 peers, strictly ascending, the own number among them
pub record IsPortSetup (s : PortSetup) : Type 0 where
  pub peers : IsPeers s.peers
  pub own : is_among s.own s.peers ≡ true

-- a configuration whose port is allowed
abbrev pub IsPort : ConfigValue → Type 0
IsPort c = IsPortSetup (record { own = c.own; peers = c.peers })

-- a past of a node with this configuration
pub record IsOf (c : ConfigValue) (past : Past) : Type 0 where
  pub own : past.own ≡ c.own
  pub name : past.name ≡ c.name
  pub may : past.may ≡ c.may
  pub strict : past.strict ≡ c.strict
  pub peers : past.peers ≡ c.peers

-- why a node with this configuration doesn't boot at this wall clock
abbrev pub BootsNot : ConfigValue → ℤ → BootFault → Type 0
BootsNot c wall Peers = IsPort c → ⊥
BootsNot c wall Range = IsPort c × (is_clock_value wall ≡ false)
BootsNot c wall OutOfMemory = IsPort c × (is_clock_value wall ≡ true)
