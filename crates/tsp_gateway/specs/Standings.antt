-- Who sets a node's clock.
use Rattle.std.specs.Prelude.{Bool, if◌then◌else◌, List, [], ◌∷◌, Option, None, Some}
use Rattle.tsp_base.specs.Words.{role, view}
use Rattle.tsp_base.specs.declared.role.Role.{Role, TheVariants.Follow}
use Rattle.tsp_rules.specs.GateRows.{any_port, leads_on, ports_from}
use Rattle.tsp_rules.specs.{NodeRows.NodePast, Values.PeerId, Values.Port}
use Rattle.tsp_gateway.specs.declared.standing.Standing.{Standing, TheVariants.Nobody, TheVariants.Follows, TheVariants.Leads}

-- the master of a role that follows one
abbrev pub master_of : Role → Option PeerId
master_of (Follow p) = Some p
master_of _ = None

-- the first that is there
abbrev pub or_else : Option PeerId → Option PeerId → Option PeerId
or_else None later = later
or_else (Some p) later = Some p

-- the master of the first of these ports that follows one
abbrev pub followed_on : NodePast → List Port → Option PeerId
followed_on past [] = None
followed_on past (q ∷ rest) = or_else (master_of (role (view q past.lines))) (followed_on past rest)

-- the master of the lowest port that follows one
abbrev pub followed : NodePast → Option PeerId
followed past = followed_on past (ports_from 0 past.ports)

-- whether a port is a master
abbrev pub leads_any : NodePast → Bool
leads_any past = any_port (leads_on past) (ports_from 0 past.ports)

-- who sets the clock of a node of which this master is followed, or none, and of which a port is a master, or none
abbrev pub standing_by : Option PeerId → Bool → Standing
standing_by (Some p) leads = Follows p
standing_by None leads = if leads then Leads else Nobody

-- who sets the node's clock: the master of the lowest port that follows one; where none does, the node itself if a port of
-- it is a master
abbrev pub standing : NodePast → Standing
standing past = standing_by (followed past) (leads_any past)
