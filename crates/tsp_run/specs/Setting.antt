-- The setting of a schedule's run: what the promises need to know of its header.
use Rattle.std.specs.Prelude.{◌≡◌, ℕ, List, [], ◌∷◌, Option, None, Some, slice_index_or}
use Rattle.tsp_rules.specs.Values.{Event, PeerId, Port}
use Rattle.tsp_base.specs.Words.{HeaderValue, IsHeader, peer_of, tick_at}
use Rattle.tsp_promises.specs.{Fits.Fits, Fits.Finished, Setting.Alone, Setting.Named, Setting.Network, Setting.Setting}
use Rattle.tsp_run.specs.{Run.run, Ranges.Accepted}
use Rattle.tsp_run.specs.{Setup.node_line, Networks.network_at, Networks.networks, Networks.peers_on, Possible.Possible, Promises.Promises}

-- the network with this number, if there is one, else the other
abbrev pub named_or : Network → Option ℕ → Network
named_or alone None = alone
named_or alone (Some k) = Named k

-- the network of a node's port; a port that the node doesn't have is alone on a network of its own
abbrev pub network_of : List (List ℕ) → ℕ → Port → Network
network_of nets n q = named_or (Alone n q.0) (network_at n q nets)

-- the members of a network
abbrev pub members_of : List (List ℕ) → Network → List PeerId
members_of nets (Named k) = peers_on (slice_index_or nets k [])
members_of nets (Alone n q) = peer_of n ∷ []

-- a setting has the drift, rates, wall clocks (for all lives), names and networks of the header, and its elections are strict if the header
-- says so
pub record SetBy (header : HeaderValue) (setting : Setting) : Type 0 where
  pub tick_is : (n t : ℕ) → setting.tick n t ≡ tick_at (node_line header n).rate t
  pub wall_is : (n life : ℕ) → setting.wall n life ≡ (node_line header n).wall
  pub name_is : (n : ℕ) → setting.name n ≡ (node_line header n).name
  pub drift_is : setting.drift ≡ header.drift
  pub strict_is : setting.strict ≡ header.strict
  pub net_is : (n : ℕ) (q : Port) → setting.net n q ≡ network_of (networks header) n q
  pub members_are : (k : Network) → setting.members k ≡ members_of (networks header) k

-- the history of every accepted schedule fits, and ends where a step ends
abbrev pub RunsFit : Type 0
RunsFit = (header : HeaderValue) (setting : Setting) (events : List Event) → SetBy header setting → Accepted header events → Fits setting (run header events) ×
    Finished setting (run header events)

-- the history of every accepted schedule keeps the promises
abbrev pub RunsKeepPromises : Type 0
RunsKeepPromises = (header : HeaderValue) (setting : Setting) (events : List Event) → SetBy header setting → Accepted header events →
    Promises setting (run header events)

-- the history of every possible schedule fits, and ends where a step ends
abbrev pub PossibleRunsFit : Type 0
PossibleRunsFit = (header : HeaderValue) (setting : Setting) (events : List Event) → SetBy header setting → Possible header events →
    Fits setting (run header events) × Finished setting (run header events)

-- the history of every possible schedule keeps the promises
abbrev pub PossibleRunsKeepPromises : Type 0
PossibleRunsKeepPromises = (header : HeaderValue) (setting : Setting) (events : List Event) → SetBy header setting → Possible header events →
    Promises setting (run header events)

-- every header has a setting
abbrev pub EachIsSet : Type 0
EachIsSet = (header : HeaderValue) → IsHeader header → (setting : Setting) × SetBy header setting
