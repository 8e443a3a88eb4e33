-- What the places of a parcel hold.
use Rattle.std.specs.Prelude.{Bool, true, false}
use Rattle.tsp_rules.specs.Values.{Taken, Good, Bad, Message, Stamp}

-- whether it is a stamp
abbrev pub is_stamp : Taken → Bool
is_stamp (Good (Stamp s)) = true
is_stamp (Good (Message m)) = false
is_stamp (Bad fault) = false

-- whether it is a message
abbrev pub is_message : Taken → Bool
is_message (Good (Stamp s)) = false
is_message (Good (Message m)) = true
is_message (Bad fault) = false
