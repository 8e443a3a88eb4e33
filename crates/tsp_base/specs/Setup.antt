-- What a port is set up with, so far as its deeds depend on it.
use Rattle.std.specs.Prelude.{ℕ, Bool, List}
use Rattle.tsp_base.specs.declared.place.{PeerId.PeerId, Port.Port}

-- the node's name, which of its ports it is, all peers of the port, and whether a candidate needs a majority of them
pub record Setup : Type 0 where
  pub name : List ℕ
  pub port : Port
  pub peers : List PeerId
  pub strict : Bool
