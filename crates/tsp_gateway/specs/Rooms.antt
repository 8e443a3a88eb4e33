-- How much room a gateway's step takes.
use Rattle.std.specs.Prelude.{ℕ, ◌+◌, ◌*◌, List, [], ◌∷◌, length, map, slice_index_or}
use Rattle.tsp_rules.specs.{Values.Alarm, Values.Probe, Values.PeerId, Values.ALL, Rooms.room_for}
use Rattle.tsp_node.specs.declared.part.Part.{Part}
use Rattle.tsp_gateway.specs.declared.gateway.Gateway.{Gateway}

-- the peers of each port
abbrev pub ports_in : Gateway → List (List PeerId)
ports_in g = map (λ (part : Part). part.station.peers) g.ports.items

-- how many peers a port has
abbrev pub peers_at : ℕ → List (List PeerId) → ℕ
peers_at q ports = length (slice_index_or ports q [])

-- how many acts a step may put: the sum over its ports of what a node with that port alone may put
abbrev pub room_of_ports : List (List PeerId) → ℕ
room_of_ports [] = 0
room_of_ports (peers ∷ rest) = room_for (length peers) + room_of_ports rest

-- how many acts an alarm of a port may put: a Probe may send LOOPs too, one more for each peer
abbrev pub alarm_room : Alarm → ℕ → ℕ
alarm_room Probe peers = 3 * peers + 8
alarm_room _ peers = 2 * peers + 8

-- how many acts these alarms may put together
abbrev pub alarms_room : List Alarm → ℕ → ℕ
alarms_room [] peers = 0
alarms_room (a ∷ rest) peers = alarm_room a peers + alarms_room rest peers

-- how many acts a port's due sends and alarms may put, with some to spare; and the sum over all ports
abbrev pub turn_room : ℕ → ℕ
turn_room peers = alarms_room ALL peers + (2 * peers + 16)

abbrev pub turns_room : List (List PeerId) → ℕ
turns_room [] = 0
turns_room (peers ∷ rest) = turn_room (length peers) + turns_room rest

-- how many peers all ports have together
abbrev pub peers_sum : List (List PeerId) → ℕ
peers_sum [] = 0
peers_sum (peers ∷ rest) = length peers + peers_sum rest
