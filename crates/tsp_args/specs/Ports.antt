-- The peers of a daemon's ports as arguments.
use Rattle.std.specs.Prelude.{◌≡◌, ◌≢◌, ℕ, ◌≤◌, List, [], ◌∷◌, ◌++◌, length, map, All, Contains, flat_map, codes}
use Rattle.tsp_io.specs.declared.addr.Addr.{Addr}
use Rattle.tsp_args.specs.Addrs.{addr_text, IsAddr}

-- ports as arguments: for each a plus, and then the addresses of its peers
abbrev pub led_words : List (List Addr) → List (List ℕ)
led_words [] = []
led_words (peers ∷ ports) = codes "+" ∷ (map addr_text peers ++ led_words ports)

-- ports as arguments, with a plus before each but the first
abbrev pub peer_words : List (List Addr) → List (List ℕ)
peer_words [] = []
peer_words (peers ∷ ports) = map addr_text peers ++ led_words ports

-- a plus or an address
abbrev pub IsPeerWord : List ℕ → Type 0
IsPeerWord word = (word ≢ codes "+") → (a : Addr) × IsAddr a × (word ≡ addr_text a)

-- all peers of some ports, in their order
abbrev pub all_peers : List (List Addr) → List Addr
all_peers ports = flat_map (λ peers. peers) ports

-- no two of some addresses are the same
abbrev pub AllDiffer : List Addr → Type 0
AllDiffer [] = Unit {0}
AllDiffer (a ∷ rest) = (¬ Contains rest a) × AllDiffer rest

-- at least one port, and each peer is an address with a port from 1 on
pub record ArePeers (ports : List (List Addr)) : Type 0 where
  pub some : 1 ≤ length ports
  pub addrs : All IsAddr (all_peers ports)

-- at most four ports with at most 999 peers together, all of them different, and none of them the daemon's own address
pub record ServeOne (local : Addr) (count : ℕ) (peers : List Addr) : Type 0 where
  pub four : count ≤ 4
  pub few : length peers ≤ 999
  pub differ : AllDiffer (local ∷ peers)

-- the ports of a daemon with this address
pub record ArePorts (local : Addr) (ports : List (List Addr)) : Type 0 where
  pub peers : ArePeers ports
  pub one : ServeOne local (length ports) (all_peers ports)
