-- The configuration of a gateway, and the pasts of a node with it.
use Rattle.std.specs.Prelude.{◌≡◌, ℕ, ℤ, Bool, true, false, List, [], ◌∷◌, map}
use Rattle.tsp_base.specs.Words.{Booted}
use Rattle.tsp_rules.specs.{Guards.is_clock_value, NodeRows.NodePast, NodeRows.PortSetup, Values.PeerId}
use Rattle.tsp_node.specs.declared.fault.BootFault.TheVariants.{Peers, Range, OutOfMemory}
use Rattle.tsp_node.specs.{Configs.IsPortSetup, declared.fault.BootFault.BootFault}

-- a node's host name, whether it may be master, whether a candidate needs a majority, and its ports in their order
pub record GateConfigValue : Type 0 where
  pub name : List ℕ
  pub may : Bool
  pub strict : Bool
  pub ports : List PortSetup

-- each of these ports is allowed
abbrev pub AreGatePorts : List PortSetup → Type 0
AreGatePorts [] = Unit {0}
AreGatePorts (s ∷ rest) = IsPortSetup s × AreGatePorts rest

-- a past of a node with this configuration
pub record IsOfNode (c : GateConfigValue) (past : NodePast) : Type 0 where
  pub name : past.name ≡ c.name
  pub may : past.may ≡ c.may
  pub strict : past.strict ≡ c.strict
  pub ports : past.ports ≡ c.ports

-- a node with this configuration boots in this step, with this word and at this wall clock
pub record UnbootedNode (c : GateConfigValue) (word : ℕ) (wall : ℤ) (past : NodePast) (nobody : Unit {0}) : Type 0 where
  pub cause : past.step.cause ≡ Booted word wall
  pub of : IsOfNode c past

-- why a node with this configuration doesn't boot at this wall clock
abbrev pub GateBootsNot : GateConfigValue → ℤ → BootFault → Type 0
GateBootsNot c wall Peers = AreGatePorts c.ports → ⊥
GateBootsNot c wall Range = AreGatePorts c.ports × (is_clock_value wall ≡ false)
GateBootsNot c wall OutOfMemory = AreGatePorts c.ports × (is_clock_value wall ≡ true)

-- the peers of each of these ports
abbrev pub peers_of_ports : List PortSetup → List (List PeerId)
peers_of_ports = map (λ (s : PortSetup). s.peers)
