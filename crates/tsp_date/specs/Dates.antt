-- What a port remembers of dates.
use Rattle.std.specs.Prelude.{ℕ, ◌==◌, if◌then◌else◌, List, [], ◌∷◌, map, Option, None, Some}
use Rattle.tsp_rules.specs.Values.{PeerId}
use Rattle.tsp_base.specs.Words.{Dating}
use Rattle.tsp_date.specs.declared.dates.{Date.Date, Dated.Dated}

-- each peer with its last date, and the tick at which the port last began to pass one on
pub record DatesValue : Type 0 where
  pub dated : List Dated
  pub asked : Option ℕ

-- a peer without a date
abbrev pub idle : PeerId → Dated
idle p = record { peer = p; last = None }

-- the peers that are known
abbrev pub peers_of : List Dated → List PeerId
peers_of ds = map (λ (d : Dated). d.peer) ds

-- a date as it is remembered, as a tick and a number
abbrev pub dating_in : Option Date → Option Dating
dating_in None = None
dating_in (Some d) = Some (record { at = d.at; number = d.number })

-- the last date of a peer
abbrev pub last_in : List Dated → PeerId → Option Dating
last_in [] p = None
last_in (d ∷ ds) p = if d.peer.0 == p.0 then dating_in d.last else last_in ds p
