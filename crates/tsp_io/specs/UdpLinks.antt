-- What a link over a UDP socket is bound to, whom it hears, and where it sends.
use Rattle.std.specs.Prelude.{◌≡◌, ◌≢◌, ◌⊎◌, ℕ, pos, Bool, true, false, List, [], ◌∷◌, None, Some, Option, MatchOption}
use Rattle.std.specs.Option.{option_map}
use Rattle.tsp_io.specs.{Counts.one_more, Directories.addr_of, Directories.ComesFrom, Links.Binding, declared.addr.Addr.Addr}
use Rattle.tsp_io.specs.Sockets.{IsWaitFor, at_once, sockaddr_of}
use Rattle.tsp_io.specs.declared.link.Recv.{Recv, TheVariants.Datagram, TheVariants.Nothing, TheVariants.Failed}
use Rattle.tsp_io.specs.declared.socket.Socket.{Socket}

-- what the link was bound to: nothing yet, or the address that the system was asked for, and its peers. It isn't told
-- of a link that was bound again
abbrev pub binds_of : Bool → Option Socket → List Addr → Option (List Binding)
binds_of true socket peers = None
binds_of false None peers = Some []
binds_of false (Some socket) peers = option_map (λ local. record { local = local; peers = peers } ∷ []) (addr_of socket.local)

-- how many datagrams were thrown away
abbrev pub discarded_by : Option Socket → ℕ
discarded_by None = 0
discarded_by (Some socket) = socket.discarded

-- the system was asked for this address
abbrev pub IsBoundTo : Addr → Option Socket → Type 0
IsBoundTo local socket = MatchOption socket ⊥ (λ s. addr_of s.local ≡ Some local)

-- a datagram is that of whoever has the address from which it came, which is noted
abbrev pub TakesFrom : List Addr → Option Addr → Recv → Type 0
TakesFrom peers last (Datagram from count) = ComesFrom peers last from
TakesFrom peers last Nothing = Unit {0}
TakesFrom peers last Failed = Unit {0}

-- unless the receive failed, the socket's wait was set for it
abbrev pub IsAwaited : ℕ → Option Socket → Recv → Type 0
IsAwaited wait socket Failed = Unit {0}
IsAwaited wait socket result = MatchOption socket ⊥ (λ s. IsWaitFor wait s.wait)

-- the last send of the socket went to this address
abbrev pub GoesTo : Option Addr → Option Socket → Type 0
GoesTo addr socket = MatchOption socket ⊥ (λ s. option_map sockaddr_of addr ≡ Some s.to)

-- how often the system was asked for a send
abbrev pub tries_of : Option Socket → ℕ
tries_of None = 0
tries_of (Some socket) = socket.tries

-- the system was asked once more, for a send of so many octets that fails at once if there is no room
abbrev pub SendsOnce : ℕ → Option Socket → Option Socket → Type 0
SendsOnce count before now = (tries_of now ≡ one_more (tries_of before)) × MatchOption now ⊥ (λ s. (s.octets ≡ count) × (s.flags ≡ at_once))

-- the system took all of so many octets
abbrev pub TookAll : ℕ → Option Socket → Type 0
TookAll count socket = MatchOption socket ⊥ (λ s. s.answer ≡ pos count)

-- there is no socket, or the system took not all of them
abbrev pub TookLess : ℕ → Option Socket → Type 0
TookLess count socket = MatchOption socket (Unit {0}) (λ s. s.answer ≢ pos count)

-- the system was asked once more for a send, or not at all
abbrev pub SendsAtMostOnce : Option Socket → Option Socket → Type 0
SendsAtMostOnce before now = (tries_of now ≡ tries_of before) ⊎ (tries_of now ≡ one_more (tries_of before))
