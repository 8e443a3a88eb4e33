-- The input of a gateway's step, as the rules have it.
use Rattle.std.specs.Prelude.{ℕ, ◌<◌}
use Rattle.tsp_base.specs.declared.input.Input.{Input, TheVariants.Turn, TheVariants.Bytes}
use Rattle.tsp_codec.specs.Taken.{taken_of}
use Rattle.tsp_rules.specs.{GateRows.NodeGiven, GateRows.NodeTurn, GateRows.GotOn, Values.Message, Values.Taken, Values.Good}

-- nothing, or octets on a port, as they are read
abbrev pub given_on : Input → NodeGiven
given_on Turn = NodeTurn
given_on (Bytes port from octets) = GotOn port from (taken_of octets.now)

-- if the input has octets, they come on one of so many ports
abbrev pub ComesOnPort : ℕ → Input → Type 0
ComesOnPort ports Turn = Unit {0}
ComesOnPort ports (Bytes port from octets) = port.0 < ports

-- what was read isn't a message
abbrev pub HoldsNoMessage : Taken → Type 0
HoldsNoMessage (Good (Message m)) = ⊥
HoldsNoMessage _ = Unit {0}
