-- A master that is followed is one of the peers.
use Rattle.std.proofs.Common.{sym, ◌∙◌, ap, ◌≡◌}
use Rattle.std.specs.List.{Contains}
use Rattle.tsp_rules.specs.Values.{PeerId, Follow}
use Rattle.tsp_acks.{proofs.PeerLemmas.Contains_among, specs.Peers.follows_among, specs.declared.station.Station.Station}

pub followed_Contains : (station : Station) (p : PeerId) → station.role ≡ Follow p → Contains station.peers p
followed_Contains station p e = Contains_among p station.peers (ap (λ r. follows_among r station.peers) (sym e) ∙ station.master)
