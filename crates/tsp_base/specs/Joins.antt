-- A history, and then one step more.
use Rattle.std.specs.Prelude.{ℕ, List, [], ◌∷◌}
use Rattle.tsp_base.specs.declared.{act.Placed.Placed, place.Port.Port}
use Rattle.tsp_base.specs.History.{Step, Deed, Begins, Acts, Line}

-- the port that marks are noted under; every port sees them
abbrev pub first_port : Port
first_port = record { 0 = 0 }

-- a deed in a step, on a port
abbrev pub line_of : Step → ℕ → Port → Deed → Line
line_of step x port deed = record { port = port; did = record { step = step; tick = x; deed = deed } }

-- a history, and then these acts of a step, each on its port
abbrev pub joined : Step → ℕ → List Placed → List Line → List Line
joined step x [] history = history
joined step x (p ∷ rest) history = joined step x rest (line_of step x p.port (Acts p.act) ∷ history)

-- a history, and then a step: its mark and its acts
abbrev pub stepped : Step → ℕ → List Placed → List Line → List Line
stepped step x acts history = joined step x acts (line_of step x first_port Begins ∷ history)
