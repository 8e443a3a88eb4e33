-- Posted datagrams as their readers see them.
use Rattle.std.specs.Prelude.{ℕ, List}
use Rattle.tsp_rules.specs.Values.{Datagram}
use Rattle.tsp_run.specs.declared.posted.Posted.{Posted}
use Rattle.tsp_networks.specs.declared.way.Way.{Way}

-- posts in the order of their numbers, and how many more there is room for
pub record PostsValue : Type 0 where
  pub items : List Posted
  pub spare : ℕ

-- a post of this datagram
abbrev pub posted_on : Way → Datagram → Posted
posted_on way datagram = record { at = way.at; from = way.from; port = way.port; to = way.to; datagram = datagram }

-- a post without its datagram
abbrev pub way_of : Posted → Way
way_of p = record { at = p.at; from = p.from; port = p.port; to = p.to }
