-- The input of a step, as the rules have it.
use Rattle.tsp_base.specs.declared.input.Input.{Input, TheVariants.Turn as OfTurn, TheVariants.Bytes}
use Rattle.tsp_codec.specs.Taken.{taken_of}
use Rattle.tsp_rules.specs.Answers.{Given, Turn, Got}

-- nothing, or octets as they are read; the node has one port, so it doesn't matter on which they came
abbrev pub given : Input → Given
given OfTurn = Turn
given (Bytes port from octets) = Got from (taken_of octets.now)
