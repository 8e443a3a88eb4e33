-- The peers of a port.
use Rattle.std.specs.Prelude.{Bool, true, List}
use Rattle.tsp_rules.specs.Values.{PeerId, Role, Follow}
use Rattle.tsp_base.specs.Words.{is_among}

-- whether a port of these peers may have this role: a master that it follows is one of them
abbrev pub follows_among : Role → List PeerId → Bool
follows_among (Follow p) peers = is_among p peers
follows_among _ peers = true
