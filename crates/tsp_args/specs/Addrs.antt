-- Addresses as arguments.
use Rattle.std.specs.Prelude.{◌≡◌, ℕ, ◌^◌, ◌<◌, ◌≤◌, List, ◌∷◌, ◌++◌, length, All, decimal}
use Rattle.std.specs.Net.Text.{ipv4_text}
use Rattle.tsp_io.specs.declared.addr.Addr.{Addr}

-- an address as an argument: its four octets in decimal with dots between, a colon, and the port
abbrev pub addr_text : Addr → List ℕ
addr_text a = ipv4_text a.ip ++ 58 ∷ decimal a.port

-- four octets, and a port from 1 on
pub record IsAddr (a : Addr) : Type 0 where
  pub four : length a.ip ≡ 4
  pub octets : All (λ x. x < 2 ^ 8) a.ip
  pub some : 1 ≤ a.port
  pub short : a.port < 2 ^ 16
