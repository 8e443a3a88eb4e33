-- Which peer has which address.
use Rattle.std.specs.Prelude.{◌≡◌, ℕ, ◌+◌, ◌*◌, ◌^◌, ◌<◌, List, Contains, take, slice_get, Some, Option, None, MatchOption}
use Rattle.std.specs.declared.net.socket_addr.SocketAddr.{SocketAddr, TheVariants.V4, TheVariants.V6}
use Rattle.std.specs.{Int.w32, Int.to_be_bytes, Int.from_be_bytes, Net.Addr.ipv4_octets, Net.Socket.v4_ip, Net.Socket.v4_port}
use Rattle.tsp_base.specs.declared.place.Place.{Place, TheVariants.Peer, TheVariants.Stranger}
use Rattle.tsp_io.specs.declared.addr.Addr.{Addr}

-- this number is the lowest of a peer with this address
pub record IsFirst (peers : List Addr) (addr : Addr) (number : ℕ) : Type 0 where
  pub has : slice_get peers number ≡ Some addr
  pub lowest : ¬ Contains (take number peers) addr

-- who has this address among the peers with these: the peer with the lowest number that does, or a stranger where none
-- does
abbrev pub IsAddressPlace : List Addr → Addr → Place → Type 0
IsAddressPlace peers addr (Peer p) = IsFirst peers addr p.0
IsAddressPlace peers addr Stranger = ¬ Contains peers addr

-- an address of the standard library's; None if it isn't an IPv4 one
abbrev pub addr_of : SocketAddr → Option Addr
addr_of (V4 a) = Some (record { ip = ipv4_octets (v4_ip a); port = v4_port a })
addr_of (V6 a) = None

-- whose a datagram is that comes from this address: one from no IPv4 address is a stranger's
abbrev pub ComesFrom : List Addr → Option Addr → Place → Type 0
ComesFrom peers from place = MatchOption from (place ≡ Stranger) (λ addr. IsAddressPlace peers addr place)

-- where a datagram goes: to the peer's own address, if there is such a peer, or to that of the last that came
abbrev pub addr_at : List Addr → Option Addr → Place → Option Addr
addr_at peers last (Peer p) = slice_get peers p.0
addr_at peers last Stranger = last

-- the address as one number: its octets, and below them its port
abbrev pub key_of : Addr → ℕ
key_of addr = from_be_bytes w32 addr.ip * 65536 + addr.port

-- an address that can be read back from its key, as each address of four octets and a port can
pub record FitsKey (addr : Addr) : Type 0 where
  pub octets : to_be_bytes w32 (from_be_bytes w32 addr.ip) ≡ addr.ip
  pub port : addr.port < 2 ^ 16

-- a table has, at the key of each address, the lowest number of a peer with it, and nothing where no peer has it
pub record AreNumbers (peers : List Addr) (table : ℕ → Option ℕ) : Type 0 where
  pub some : (addr : Addr) (number : ℕ) → FitsKey addr → table (key_of addr) ≡ Some number → IsFirst peers addr number
  pub none : (addr : Addr) → FitsKey addr → table (key_of addr) ≡ None → ¬ Contains peers addr
