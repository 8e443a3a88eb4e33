-- The networks of a schedule: who is on them, and by which of its ports a node is.
use Rattle.std.specs.Prelude.{ℕ, zero, suc, ◌+◌, ◌==◌, if◌then◌else◌, List, [], ◌∷◌, ◌++◌, length, map, Option, None, Some}
use Rattle.tsp_rules.specs.{Values.PeerId, Values.Place, Values.Peer, Values.Stranger, Values.Port, NodeRows.PortSetup, Rooms.room_for}
use Rattle.tsp_base.specs.Words.{HeaderValue, has_member, peer_of}
use Rattle.tsp_run.specs.declared.address.Address.{Address}

-- the numbers from 0 to n - 1, ascending
abbrev pub numbers_below : ℕ → List ℕ
numbers_below zero = []
numbers_below (suc n) = numbers_below n ++ n ∷ []

-- these networks; if there are none, one network with all of so many nodes
abbrev pub networks_among : ℕ → List (List ℕ) → List (List ℕ)
networks_among nodes [] = numbers_below nodes ∷ []
networks_among nodes (net ∷ rest) = net ∷ rest

-- the networks of a header, each the numbers of its nodes; all nodes are on one if it names none
abbrev pub networks : HeaderValue → List (List ℕ)
networks header = networks_among (length header.nodes) header.nets

-- the members of a network, as the peers of a port on it; the port's own node is among them
abbrev pub peers_on : List ℕ → List PeerId
peers_on net = map peer_of net

-- how the port of node n on a network is set up
abbrev pub port_on : ℕ → List ℕ → PortSetup
port_on n net = record { own = peer_of n; peers = peers_on net }

-- how the ports of a node are set up: one for each network that the node is on, in their order
abbrev pub ports_on : ℕ → List (List ℕ) → List PortSetup
ports_on n [] = []
ports_on n (net ∷ rest) = if has_member n net then port_on n net ∷ ports_on n rest else ports_on n rest

-- the network of port q of node n among these networks, whose numbers begin with k, if the first port that n has on one
-- of them is its port p; none if n has no such port
abbrev pub network_from : ℕ → ℕ → ℕ → ℕ → List (List ℕ) → Option ℕ
network_from n q p k [] = None
network_from n q p k (net ∷ rest) = if has_member n net then (if p == q then Some k else network_from n q (p + 1) (k + 1) rest) else network_from n q p (k + 1)
    rest

-- by which port node n is on network k, if these networks' numbers begin with i and n's ports on them with p; none if
-- it isn't on that network
abbrev pub port_from : ℕ → ℕ → ℕ → ℕ → List (List ℕ) → Option ℕ
port_from n k p i [] = None
port_from n k p i (net ∷ rest) = if i == k then (if has_member n net then Some p else None) else (if has_member n net then port_from n k (p + 1) (i + 1) rest
    else port_from n k p (i + 1) rest)

-- the network of port q of node n, if it has such a port
abbrev pub network_at : ℕ → Port → List (List ℕ) → Option ℕ
network_at n q nets = network_from n q.0 0 0 nets

-- the port by which node n is on a network, if it is on it and there is a network
abbrev pub port_at : ℕ → Option ℕ → List (List ℕ) → Option ℕ
port_at n None nets = None
port_at n (Some k) nets = port_from n k 0 0 nets

-- a node and its port, if there is a port
abbrev pub address_at : ℕ → Option ℕ → Option Address
address_at n None = None
address_at n (Some q) = Some (record { node = n; port = record { 0 = q } })

-- where a datagram goes that a node posts on a port: to its addressee's port on the same network. It goes nowhere if
-- the addressee isn't on that network, or is a stranger
abbrev pub address_of : List (List ℕ) → ℕ → Port → Place → Option Address
address_of nets from port (Peer p) = address_at p.0 (port_at p.0 (network_at from port nets) nets)
address_of nets from port Stranger = None

-- how many acts a node with these ports puts in a step at most: the sum over its ports
abbrev pub room : List PortSetup → ℕ
room [] = 0
room (s ∷ rest) = room_for (length s.peers) + room rest
