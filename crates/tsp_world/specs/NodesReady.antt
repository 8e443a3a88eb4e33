-- What is true of a world's nodes and their configurations, so that each can boot and act.
use Rattle.std.specs.Prelude.{◌≡◌, ℕ, ◌≤◌, ◌<◌, true, List, [], ◌∷◌, length, Option, None, Some, slice_get}
use Rattle.tsp_base.specs.Words.{HeaderValue, IsHeader, is_whole, tick_at}
use Rattle.tsp_gateway.specs.{Dues.RestsUntil, GateConfigs.GateConfigValue, GateConfigs.peers_of_ports, GatewayStands.clock_at}
use Rattle.tsp_gateway.specs.{Rooms.ports_in, Rooms.room_of_ports, declared.gateway.Gateway.Gateway}
use Rattle.tsp_rules.specs.{NodeRows.PortSetup, Values.Port}
use Rattle.tsp_run.specs.{Networks.networks, Networks.numbers_below, Networks.ports_on, Networks.room, Setup.node_line}
use Rattle.tsp_world.specs.Configs.{configs_below}

-- a node has these ports, and its clock was last corrected at this tick or before
abbrev pub NodeReady : List PortSetup → ℕ → Gateway → Type 0
NodeReady ports x node = (ports_in node ≡ peers_of_ports ports) × (clock_at node ≤ x)

-- the same of a place whose node is up
abbrev pub PlaceReady : List PortSetup → ℕ → Option Gateway → Type 0
PlaceReady ports x place = (node : Gateway) → place ≡ Some node → NodeReady ports x node

-- a node that is up has room for the acts of a step, and its clock was last corrected at this tick or before
abbrev pub CanAct : ℕ → ℕ → Option Gateway → Type 0
CanAct spare x place = (node : Gateway) → place ≡ Some node → (room_of_ports (ports_in node) ≤ spare) × (clock_at node ≤ x)

-- the same, and the node has this port
abbrev pub CanTake : ℕ → ℕ → Port → Option Gateway → Type 0
CanTake spare x port place = (node : Gateway) → place ≡ Some node → (room_of_ports (ports_in node) ≤ spare) × (clock_at node ≤ x) ×
    (port.0 < length (ports_in node))

-- all places are ready at a true time, each at its own tick
abbrev pub PlacesReady : HeaderValue → List (Option Gateway) → ℕ → Type 0
PlacesReady header nodes at = (n : ℕ) (place : Option Gateway) → slice_get nodes n ≡ Some place →
    PlaceReady (ports_on n (networks header)) (tick_at (node_line header n).rate at) place

-- the header is one of a schedule, the one network has all nodes, the configurations are as the header says, and the nodes can act at the last event's time or
-- later
pub record NodesReady (header : HeaderValue) (one : List (List ℕ)) (nodes : List (Option Gateway)) (configs : List GateConfigValue) (last : ℕ) : Type 0 where
  pub header_is : IsHeader header
  pub whole : is_whole header ≡ true
  pub one_is : one ≡ numbers_below (length header.nodes) ∷ []
  pub configs_are : configs ≡ configs_below header (length header.nodes)
  pub places : PlacesReady header nodes last

-- where a tick is known before which nothing of a node is due, that is so of the node as it stands
abbrev pub AreDues : List (Option ℕ) → List (Option Gateway) → Type 0
AreDues dues nodes = (n due : ℕ) (node : Gateway) → slice_get dues n ≡ Some (Some due) → slice_get nodes n ≡ Some (Some node) → RestsUntil due node

-- how many acts a step of this node may put; 0 where no node acts
abbrev pub wanted : HeaderValue → Option ℕ → ℕ
wanted header None = 0
wanted header (Some n) = room (ports_on n (networks header))
