-- A port's past in which each deed has done what it owes.
use Rattle.std.specs.Prelude.{List, [], ◌∷◌}
use Rattle.tsp_promises.specs.DeedFits.{DeedFits}
use Rattle.tsp_base.specs.Words.{Past, Seen, Here, Elsewhere, Setup}

-- what a port is set up with, as its past has it
abbrev pub setup_in : Past → Setup
setup_in past = record { name = past.name; port = past.port; peers = past.peers; strict = past.strict }

-- each deed on this port does what it owes to what the port is set up with and has seen before; a deed on another port
-- owes this one nothing
abbrev pub PortFits : Setup → List Seen → Type 0
PortFits setup [] = Unit {0}
PortFits setup (Here d ∷ before) = DeedFits setup d.deed d before × PortFits setup before
PortFits setup (Elsewhere d ∷ before) = PortFits setup before
