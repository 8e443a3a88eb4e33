-- Acts of a slave's sorts leave the slave table and the measured peers alone, or empty them where the role changes.
use Rattle.std.specs.Prelude.{◌||◌, Bool, true, false, List, [], ◌∷◌}
use Rattle.tsp_rules.specs.Values.{Act, Become}

-- whether the role changes in these acts
abbrev pub is_change : Act → Bool
is_change (Become r) = true
is_change _ = false

abbrev pub changes : List Act → Bool
changes [] = false
changes (a ∷ rest) = is_change a || changes rest
