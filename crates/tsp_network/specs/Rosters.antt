-- Who is whom: by which numbers the daemons of a network know each other. A daemon is number 0 for itself, and its peers have the numbers
-- from 1 on, port by port, and on each port in the order of the nodes.
use Rattle.std.specs.Prelude.{ℕ, zero, suc, ◌+◌, ◌-◌, ◌==◌, nat_le, nat_lt, not, ◌&&◌, if◌then◌else◌, List, [], ◌∷◌, length, filter, sum, Option, None, Some}
use Rattle.std.specs.Prelude.{slice_index_or}
use Rattle.tsp_rules.specs.{Values.Place, Values.Peer, Values.Stranger, Values.Port, Renames.Renaming}
use Rattle.tsp_base.specs.Words.{has_member, peer_of}
use Rattle.tsp_run.specs.{Networks.address_of, declared.address.Address.Address}

-- the other members of a network
abbrev pub others_in : ℕ → List ℕ → List ℕ
others_in n net = filter (λ m. not (m == n)) net

-- the other members of each network that a node is on: one list for each of its ports
abbrev pub neighbours : ℕ → List (List ℕ) → List (List ℕ)
neighbours n [] = []
neighbours n (net ∷ rest) = if has_member n net then others_in n net ∷ neighbours n rest else neighbours n rest

-- those on one port
abbrev pub neighbours_on : ℕ → ℕ → List (List ℕ) → List ℕ
neighbours_on n q nets = slice_index_or (neighbours n nets) q []

-- how many nodes the first q of these lists have
abbrev pub count_below : ℕ → List (List ℕ) → ℕ
count_below zero lists = 0
count_below (suc q) [] = 0
count_below (suc q) (nodes ∷ rest) = length nodes + count_below q rest

-- the place of a node in a list, from 0
abbrev pub place_in : ℕ → List ℕ → ℕ
place_in m [] = 0
place_in m (n ∷ rest) = if n == m then 0 else suc (place_in m rest)

-- the number by which the daemon of node n knows node m on its port q
abbrev pub number_for : ℕ → ℕ → ℕ → List (List ℕ) → ℕ
number_for n q m nets = if m == n then 0 else count_below q (neighbours n nets) + 1 + place_in m (neighbours_on n q nets)

-- the node that a number names for node n, if these nodes have the numbers after `done`; a number that names nobody there becomes one above
-- those of n and of these nodes
abbrev pub named_node : ℕ → ℕ → List ℕ → ℕ → ℕ
named_node n done nodes p = if p == 0 then n else
    (if nat_lt done p && nat_le p (done + length nodes) then slice_index_or nodes (p - (done + 1)) 0 else p + (n + sum nodes + 1))

-- what a port's acts are in the numbers of the nodes, and in the ticks of the node: `origin` is the node's tick when the daemon's own
-- counter was at 0
abbrev pub renaming_on : List (List ℕ) → ℕ → ℕ → Port → Renaming
renaming_on nets n origin q = record {
  shift = origin;
  peer = λ p. record {
    0 = named_node n (count_below q.0 (neighbours n nets)) (neighbours_on n q.0 nets)
        p.0;
  };
}

-- the port on which a number above 0 is a peer, if these are the nodes of the ports from q on, and `done` numbers are those of earlier ports
abbrev pub port_of_number : ℕ → ℕ → ℕ → List (List ℕ) → Option Port
port_of_number p done q [] = None
port_of_number p done q (nodes ∷ rest) = if nat_le p (done + length nodes) then Some (record { 0 = q }) else port_of_number p (done + length nodes) (q + 1) rest

-- where a send of node n goes, by the port on which it is sent
abbrev pub send_address : List (List ℕ) → ℕ → ℕ → Option Port → Option Address
send_address nets n p None = None
send_address nets n p (Some q) = address_of nets n q (Peer (peer_of (named_node n (count_below q.0 (neighbours n nets)) (neighbours_on n q.0 nets) p)))

-- where a send of node n goes: to the node and the port at which the addressee is reached; to nobody, if it is a stranger or the daemon itself
abbrev pub destination : List (List ℕ) → ℕ → Place → Option Address
destination nets n (Peer p) = if p.0 == 0 then None else send_address nets n p.0 (port_of_number p.0 0 0 (neighbours n nets))
destination nets n Stranger = None

-- from whom a datagram comes to port q of node n, in the daemon's numbers
abbrev pub sender_for : List (List ℕ) → ℕ → Port → Place → Place
sender_for nets n q (Peer m) = Peer (peer_of (number_for n q.0 m.0 nets))
sender_for nets n q Stranger = Stranger
