-- Which port a peer is on.
use Rattle.std.specs.Prelude.{ℕ, ◌+◌, ◌==◌, ◌&&◌, not, Bool, if◌then◌else◌, List, [], ◌∷◌, map}
use Rattle.tsp_base.specs.Words.{first_port, is_among}
use Rattle.tsp_rules.specs.{NodeRows.PortSetup, Values.PeerId, Values.Port}
use Rattle.tsp_node.specs.declared.part.Part.{Part}
use Rattle.tsp_gateway.specs.declared.gateway.Gateway.{Gateway}

-- whether p is a peer of a port and not the node itself
abbrev pub has_other_peer : PeerId → PortSetup → Bool
has_other_peer p s = is_among p s.peers && not (s.own.0 == p.0)

-- the lowest of these ports, numbered from this number on, that has p as a peer other than the node itself; the first port where none has
abbrev pub port_of_from : ℕ → PeerId → List PortSetup → Port
port_of_from k p [] = first_port
port_of_from k p (s ∷ rest) = if has_other_peer p s then record { 0 = k } else port_of_from (k + 1) p rest

-- the lowest port that has p as a peer other than the node itself; the first port where none has
abbrev pub port_of : PeerId → List PortSetup → Port
port_of = port_of_from 0

-- the setup of each port
abbrev pub setups_in : Gateway → List PortSetup
setups_in g = map (λ (part : Part). record { own = part.station.me.own; peers = part.station.peers }) g.ports.items
